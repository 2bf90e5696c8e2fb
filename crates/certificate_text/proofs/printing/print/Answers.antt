use Rattle.std.proofs.Common.{◌≡◌, ℕ, List, Ok, string_bytes, ap, ◌∙◌, subst}
use Rattle.certificate.specs.Content.{content_of}
use Rattle.certificate.specs.Ranges.{GeometryInRange, ValuesInRange, FactorsInRange}
use Rattle.certificate.specs.Reading.{refusal}
use Rattle.certificate_text.specs.Parsed.{parsed}
use Rattle.certificate_text.specs.Printed.{text_of, rated_content, Bytes}
use Rattle.certificate_text.proofs.Lawful.{rated_same, printed_back}
use Rattle.certificate_text.proofs.PrintRuns.{parts}
use Rattle.certificate_text.proofs.printing.print.Goals as goal

pub returns : goal.returns
unfolding text_of rated_content content_of
returns c =
    let bs : List ℕ = c.args.certificate.now.bytes.now in
    let h : refusal bs ≡ Ok tt = c.args.certificate.now.accepted in
    let n = rw (c.edition.ensures, c.geometry.ensures.value, c.values.ensures.value, c.factors.ensures.value) at c.numbers_from-numbers.ensures in
    let p = parts _ _ _ _ _ _ _ c.new-out.ensures.bytes c.in_ok-write_fields.ensures c.in_ok-write_list.ensures.text c.in_ok-write_list-2.ensures.text in
    let e : string_bytes c.write_list-2.new.out ≡ text_of (rated_content bs) = rw (n, c.section.ensures.bytes, c.section-2.ensures.bytes) at p in
    let good = printed_back bs h (subst GeometryInRange c.geometry.ensures.value c.geometry.ensures.lawful) (subst ValuesInRange c.values.ensures.value c.values.ensures.lawful) (subst FactorsInRange c.factors.ensures.value c.factors.ensures.lawful) (subst Bytes c.section.ensures.bytes c.write_list.ensures.bytes) (subst Bytes c.section-2.ensures.bytes c.write_list-2.ensures.bytes) in
    record { text = e; lawful = e ∙ ap text_of (rated_same bs h); back = ap parsed e ∙ good }
