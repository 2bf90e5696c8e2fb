-- The numbers of a certificate that was read fit the text's fields.
use Rattle.std.proofs.Common.{◌≡◌, ℕ, ◌+◌, ◌*◌, ◌/◌, ◌<◌, ◌≤◌, ◌⊎◌, List, [], ◌∷◌, map, length, Ok, refl, ap, ◌∙◌, ⊎_elim, arith, lit<, lit≤}
use Rattle.std.specs.List.{range_with_len, AllByRecursion}
use Rattle.certificate.specs.Content.{content_of, edition_of, geometry_of, values_of, factors_of, entry_at, entries}
use Rattle.certificate.specs.Layout.{section_of}
use Rattle.certificate.specs.declared.layout.Section.TheVariants as section
use Rattle.certificate.specs.Ranges.{GeometryInRange, ValuesInRange, FactorsInRange, Value}
use Rattle.certificate.specs.Reading.{refusal}
use Rattle.certificate.specs.declared.fields.Edition.{Edition}
use Rattle.certificate.specs.declared.fields.Edition.TheVariants.{First, Second}
use Rattle.certificate.specs.declared.fields.Geometry.{Geometry}
use Rattle.certificate.specs.declared.fields.CharacteristicValues.{CharacteristicValues}
use Rattle.certificate.specs.declared.fields.PartialFactors.{PartialFactors}
use Rattle.certificate.proofs.Sound.{edition_kept}
use Rattle.certificate_text.specs.Names.{table}
use Rattle.certificate_text.specs.Printed.{numbers_from, edition_number, rated_content, text_of, Bytes}
use Rattle.certificate_text.specs.Parsed.{parsed}
use Rattle.certificate_text.proofs.RoundTrips.{Good, Small, text_back}

or_zero : (n : ℕ) → Value n ⊎ (n ≡ 0) → n ≤ 500000
or_zero n h = ⊎_elim (λ (b : Value n). b.to) (λ (z : n ≡ 0). omega arith) h

edition_small : (e : Edition) → edition_number e ≤ 2
edition_small First = omega arith
edition_small Second = omega arith

under : {n m k : ℕ} → n ≤ m → m ≤ k → n ≤ k
under h g = omega arith

below : {n m k : ℕ} → n ≤ m → m < k → n < k
below h g = omega arith

pub good_numbers : (e : Edition) (g : Geometry) (v : CharacteristicValues) (f : PartialFactors) → GeometryInRange g → ValuesInRange v → FactorsInRange f → Good table (numbers_from (edition_number e) g v f)
good_numbers e g v f gr vr fr =
    (refl, under (edition_small e) (lit≤ tt), below (edition_small e) (lit< tt), (refl, under gr.depth.to (lit≤ tt), below gr.depth.to (lit< tt), (refl, under gr.width.to (lit≤ tt), below gr.width.to (lit< tt), (refl, under gr.height.to (lit≤ tt), below gr.height.to (lit< tt), (refl, under gr.cone_cracked.to (lit≤ tt), below gr.cone_cracked.to (lit< tt), (refl, under gr.cone_uncracked.to (lit≤ tt), below gr.cone_uncracked.to (lit< tt), (refl, under gr.edge_cracked.to (lit≤ tt), below gr.edge_cracked.to (lit< tt), (refl, under gr.edge_uncracked.to (lit≤ tt), below gr.edge_uncracked.to (lit< tt), (refl, under gr.pryout.to (lit≤ tt), below gr.pryout.to (lit< tt), (refl, under gr.lip_tension.to (lit≤ tt), below gr.lip_tension.to (lit< tt), (refl, under gr.lip_shear.to (lit≤ tt), below gr.lip_shear.to (lit< tt), (refl, under gr.inertia.to (lit≤ tt), below gr.inertia.to (lit< tt), (refl, under vr.anchor.to (lit≤ tt), below vr.anchor.to (lit< tt), (refl, under vr.connection.to (lit≤ tt), below vr.connection.to (lit< tt), (refl, under vr.lip.to (lit≤ tt), below vr.lip.to (lit< tt), (refl, under vr.bolt.to (lit≤ tt), below vr.bolt.to (lit< tt), (refl, under vr.flexure.to (lit≤ tt), below vr.flexure.to (lit< tt), (refl, under vr.pullout.to (lit≤ tt), below vr.pullout.to (lit< tt), (refl, under vr.bolt_shear.to (lit≤ tt), below vr.bolt_shear.to (lit< tt), (refl, under vr.lip_shear.to (lit≤ tt), below vr.lip_shear.to (lit< tt), (refl, under (or_zero _ vr.anchor_shear) (lit≤ tt), below (or_zero _ vr.anchor_shear) (lit< tt), (refl, under (or_zero _ vr.connection_shear) (lit≤ tt), below (or_zero _ vr.connection_shear) (lit< tt), (refl, under fr.anchor.to (lit≤ tt), below fr.anchor.to (lit< tt), (refl, under fr.connection.to (lit≤ tt), below fr.connection.to (lit< tt), (refl, under fr.lip.to (lit≤ tt), below fr.lip.to (lit< tt), (refl, under fr.bolt.to (lit≤ tt), below fr.bolt.to (lit< tt), (refl, under fr.flexure.to (lit≤ tt), below fr.flexure.to (lit< tt), (refl, under fr.bolt_shear.to (lit≤ tt), below fr.bolt_shear.to (lit< tt), (refl, under fr.lip_shear.to (lit≤ tt), below fr.lip_shear.to (lit< tt), (refl, under fr.anchor_shear.to (lit≤ tt), below fr.anchor_shear.to (lit< tt), (refl, under fr.connection_shear.to (lit≤ tt), below fr.connection_shear.to (lit< tt), (refl, under fr.concrete.to (lit≤ tt), below fr.concrete.to (lit< tt), tt))))))))))))))))))))))))))))))))

small_entry : (bs : List ℕ) (k : ℕ) → Bytes bs → Small (entry_at bs k)
small_entry bs k b =
    record {
      strength = omega (arith, b (4 * k), b (4 * k + 1));
      factor = omega (arith, b (4 * k + 2), b (4 * k + 2 + 1));
    }

small_each : (bs : List ℕ) (ks : List ℕ) → Bytes bs → AllByRecursion Small (map (entry_at bs) ks)
small_each bs [] b = tt
small_each bs (k ∷ ks) b = (small_entry bs k b, small_each bs ks b)

pub small_entries : (bs : List ℕ) → Bytes bs → AllByRecursion Small (entries bs)
small_entries bs b = small_each bs (range_with_len 0 (length bs / 4)) b

-- a certificate that was read is rated by the edition that it names
pub rated_same : (bs : List ℕ) → refusal bs ≡ Ok tt → rated_content bs ≡ content_of bs
unfolding rated_content content_of
rated_same bs h =
    ap (λ (n : ℕ). record { edition = n; geometry = (content_of bs).geometry; values = (content_of bs).values; factors = (content_of bs).factors; cracked = (content_of bs).cracked; uncracked = (content_of bs).uncracked }) (edition_kept bs h)

-- the text of a certificate that was read parses back to its content
pub printed_back : (bs : List ℕ) → refusal bs ≡ Ok tt → GeometryInRange (geometry_of (section_of bs section.Geometry)) → ValuesInRange (values_of (section_of bs section.Resistance)) → FactorsInRange (factors_of (section_of bs section.Resistance)) → Bytes (section_of bs section.Cracked) → Bytes (section_of bs section.Uncracked) → parsed (text_of (rated_content bs)) ≡ Ok (content_of bs)
unfolding rated_content content_of
printed_back bs h gr vr fr bc bu =
    text_back (rated_content bs) (good_numbers (edition_of bs) _ _ _ gr vr fr) (small_entries (section_of bs section.Cracked) bc) (small_entries (section_of bs section.Uncracked) bu) ∙ ap Ok (rated_same bs h)
