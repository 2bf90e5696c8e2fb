use Rattle.std.proofs.Common.{◌≡◌, ℕ, List, ◌++◌, Ok, Err, sym, ap, ◌∙◌}
use Rattle.std.proofs.lemmas.Result.{err_from_is_err_and}
use Rattle.certificate.specs.Asked.{Asked, first_no}
use Rattle.certificate.specs.Layout.{offset, section_of}
use Rattle.certificate.specs.Rules.{fields_asked, geometry_rules, resistance_rules, ratios_asked}
use Rattle.certificate.specs.declared.rules.FieldRule.{FieldRule}
use Rattle.certificate.specs.declared.layout.Section.TheVariants.{Geometry, Resistance}
use Rattle.certificate.proofs.Firsts.{first_no_then, first_no_stop}
use Rattle.certificate.proofs.RuleTables.{geometry_table, resistance_table}
use Rattle.certificate.proofs.asking.ask_numbers.Goals as goal

abbrev geometry : List ℕ → Asked
geometry bs = fields_asked (offset bs Geometry) (section_of bs Geometry) geometry_rules

abbrev resistance : List ℕ → Asked
resistance bs = fields_asked (offset bs Resistance) (section_of bs Resistance) resistance_rules

abbrev ratios : List ℕ → Asked
ratios bs = ratios_asked (offset bs Geometry) (section_of bs Geometry)

-- the same questions, of the parts that the code holds
same_fields : (p q : ℕ) (xs ys : List ℕ) (rs ss : List FieldRule) → p ≡ q → xs ≡ ys → rs ≡ ss → first_no (fields_asked p xs rs) ≡ first_no (fields_asked q ys ss)
same_fields p q xs ys rs ss e f g = cc

same_ratios : (p q : ℕ) (xs ys : List ℕ) → p ≡ q → xs ≡ ys → first_no (ratios_asked p xs) ≡ first_no (ratios_asked q ys)
same_ratios p q xs ys e f = ap (λ (k : ℕ). first_no (ratios_asked k xs)) e ∙ ap (λ (zs : List ℕ). first_no (ratios_asked q zs)) f

pub returns-in_err-ask_fields : goal.returns-in_err-ask_fields
returns-in_err-ask_fields c =
    let p = err_from_is_err_and c.from_residual.result c.from_residual.ensures.1 in
    let bs : List ℕ = c.args.bytes.now in
    let e : first_no (geometry bs) ≡ Err c.in_err-ask_fields.field-0.0 = sym (same_fields _ _ _ _ _ _ c.part_of-geometry.ensures.place c.part_of-geometry.ensures.bytes geometry_table) ∙ sym c.ask_fields.ensures ∙ c.in_err-ask_fields.was in
    rw (p.1, p.2) (sym (first_no_stop (geometry bs) (resistance bs ++ ratios bs) _ e))

pub returns-in_err-ask_fields-2 : goal.returns-in_err-ask_fields-2
returns-in_err-ask_fields-2 c =
    let p = err_from_is_err_and c.from_residual-in_err-ask_fields-2.result c.from_residual-in_err-ask_fields-2.ensures.1 in
    let bs : List ℕ = c.args.bytes.now in
    let d : first_no (geometry bs) ≡ Ok tt = sym (same_fields _ _ _ _ _ _ c.part_of-geometry.ensures.place c.part_of-geometry.ensures.bytes geometry_table) ∙ sym c.ask_fields.ensures ∙ c.in_ok-ask_fields.was in
    let e : first_no (resistance bs) ≡ Err c.in_err-ask_fields-2.field-0.0 = sym (same_fields _ _ _ _ _ _ c.part_of.ensures.place c.part_of.ensures.bytes resistance_table) ∙ sym c.ask_fields-2.ensures ∙ c.in_err-ask_fields-2.was in
    rw (p.1, p.2) (sym (first_no_then (geometry bs) (resistance bs ++ ratios bs) d ∙ first_no_stop (resistance bs) (ratios bs) _ e))

pub returns : goal.returns
returns c =
    let bs : List ℕ = c.args.bytes.now in
    let d : first_no (geometry bs) ≡ Ok tt = sym (same_fields _ _ _ _ _ _ c.part_of-geometry.ensures.place c.part_of-geometry.ensures.bytes geometry_table) ∙ sym c.ask_fields.ensures ∙ c.in_ok-ask_fields.was in
    let e : first_no (resistance bs) ≡ Ok tt = sym (same_fields _ _ _ _ _ _ c.part_of.ensures.place c.part_of.ensures.bytes resistance_table) ∙ sym c.ask_fields-2.ensures ∙ c.in_ok-ask_fields-2.was in
    let f : c.ask_ratios.result ≡ first_no (ratios bs) = c.ask_ratios.ensures ∙ same_ratios _ _ _ _ c.part_of-geometry.ensures.place c.part_of-geometry.ensures.bytes in
    f ∙ sym (first_no_then (geometry bs) (resistance bs ++ ratios bs) d ∙ first_no_then (resistance bs) (ratios bs) e)
