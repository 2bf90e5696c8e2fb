use Rattle.std.proofs.Common.{ℕ, List, Ok, ap, ◌∙◌}
use Rattle.certificate.specs.Content.{content_of}
use Rattle.certificate_text.specs.Printed.{text_of}
use Rattle.certificate_tool.proofs.Accepted.{reads}
use Rattle.certificate_tool.proofs.show.Goals as goal

pub returns : goal.returns
returns c =
    let bs : List ℕ = c.args.bytes.now in
    let held = c.in_ok-certificate.ensures.held in
    let printed = c.in_ok-print.ensures in
    (content_of bs, reads bs held.1, printed.lawful ∙ ap (λ (xs : List ℕ). text_of (content_of xs)) held.0, printed.back ∙ ap (λ (xs : List ℕ). Ok (content_of xs)) held.0)
