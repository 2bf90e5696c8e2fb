use Rattle.std.proofs.Common.{rules, sym, ap, ◌∙◌}
use Rattle.certificate_text.specs.Lines.{one_number, field_line}
use Rattle.certificate_text.proofs.WordRuns.{one_word}
use Rattle.certificate_text.proofs.line.field_in.Goals as goal

pub returns-in_err-after_name : goal.returns-in_err-after_name
unfolding field_line
returns-in_err-after_name c = search rules

pub returns : goal.returns
unfolding field_line
returns c =
    c.bounded_in.ensures ∙ sym (ap (one_number c.args.field.now.most) c.in_ok-after_name.ensures ∙ one_word c.args.field.now.most c.in_ok-after_name.field-0.now)
