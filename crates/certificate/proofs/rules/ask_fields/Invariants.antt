use Rattle.std.proofs.Common.{◌≡◌, drop}
use Rattle.certificate.specs.Asked.{first_no}
use Rattle.certificate.specs.Rules.{fields_asked}
use Rattle.certificate.proofs.rules.ask_fields.Given as goal

abbrev pub invariant-loop-rule : goal.invariant-loop-rule
invariant-loop-rule l =
    first_no (fields_asked l.section.place l.section.bytes.now (drop l.rule-index l.rules)) ≡ first_no (fields_asked l.section.place l.section.bytes.now l.rules)
