use Rattle.std.proofs.Common.{rules}
use Rattle.certificate_text.specs.Lines.{entry_line}
use Rattle.certificate_text.proofs.line.entry_in.Goals as goal

pub returns-in_err-after_name : goal.returns-in_err-after_name
unfolding entry_line
returns-in_err-after_name c = search rules

pub returns : goal.returns
unfolding entry_line
returns c = search rules
