use Rattle.std.proofs.Common.{◌≡◌, sym, ap, ◌∙◌}
use Rattle.job_text.specs.Lines.{said, job_line}
use Rattle.job_text.proofs.Meant.{says, understood, printed_back}
use Rattle.job_text.proofs.line.JobLine.parse.Goals as goal

value : (c : goal.After-called) → c.called.result ≡ job_line c.args.line.now
unfolding job_line
value c = c.called.ensures ∙ sym (ap said c.cut_word-cut.ensures.words)

pub returns : goal.returns
returns c =
    record {
      value = value c;
      says = λ j e. says c.args.line.now j (sym (value c) ∙ e);
      only = λ j s. value c ∙ understood c.args.line.now j s;
      back = printed_back;
    }
