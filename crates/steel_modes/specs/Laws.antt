-- Each mode keeps what every mode owes, for all numbers in range.
use Rattle.std.proofs.Common.{◌≡◌, ℕ, ◌*◌, ◌/◌, ◌≤◌, true, eqb, refl, mul-le-mul, arith}
use Rattle.std.proofs.lemmas.Bool.Decides.{nat_tests}
use Rattle.fractions.specs.Fractions.{over}
use Rattle.bolts.specs.declared.bolt.Direction.{Direction}
use Rattle.bolts.specs.declared.bolt.Direction.TheVariants.{Tension}
use Rattle.forces.specs.Cases.{Case, Valid}
use Rattle.failure.specs.Meanings.{Lawful}
use Rattle.steel_modes.specs.Ranges.{value_or_none, value_well, strength_well, bending_well}
use Rattle.steel_modes.specs.Quotients.{divided}
use Rattle.steel_modes.specs.Anchored.{anchor_steel_meaning, pull_out_meaning, on_anchors}
use Rattle.steel_modes.specs.Bolted.{bolt_steel_meaning}
use Rattle.steel_modes.specs.Nearby.{nearest_of}
use Rattle.steel_modes.specs.Shared.{lip_above, lip_below, lip_down}
use Rattle.steel_modes.specs.Lips.{proper_lip, lip_meaning}
use Rattle.steel_modes.specs.Flexed.{flexure_meaning}
use Rattle.steel_modes.specs.declared.design.PartialFactor.{PartialFactor}
use Rattle.failure.proofs.Quotients.{down_fits}
use Rattle.steel_modes.specs.AnchoredLemmas.{force_lawful, count_within}
use Rattle.steel_modes.specs.BoltedLemmas.{load_lawful}
use Rattle.steel_modes.specs.LipLemmas.{lip_rounds, lip_fits}
use Rattle.steel_modes.specs.FlexedLemmas.{flexure_lawful}

small : (v : ℕ) → value_well v ≡ true → v ≤ 500000
small v r = grind (arith, nat_tests)

none_or_small : (v : ℕ) → value_or_none v ≡ true → v ≤ 500000
none_or_small v r = grind (arith, nat_tests)

weak : (s : ℕ) → strength_well s ≡ true → s ≤ 400
weak s r = grind (arith, nat_tests)

pub anchor_steel_lawful : (d : Direction) (v : ℕ) (f : PartialFactor) → value_or_none v ≡ true → (c : Case) → Valid c → Lawful c (anchor_steel_meaning d v f c)
anchor_steel_lawful d v f r c valid i here =
    let least = none_or_small v r in
    force_lawful _ d (v * 100000) f c valid (omega (arith, least)) i (count_within (eqb v 0) c i here)

pub pull_out_lawful : (v s : ℕ) (f : PartialFactor) → value_well v ≡ true → strength_well s ≡ true → (c : Case) → Valid c → Lawful c (pull_out_meaning v s f c)
pull_out_lawful v s f r t c valid i here =
    force_lawful (on_anchors c) Tension (v * 1000 * s) f c valid (omega (arith, mul-le-mul (small v r) (weak s t))) i here

pub bolt_steel_lawful : (d : Direction) (v : ℕ) (f : PartialFactor) → value_well v ≡ true → (c : Case) → Valid c → Lawful c (bolt_steel_meaning d v f c)
bolt_steel_lawful d v f r c valid i here =
    load_lawful d c valid (λ _. v * 100000 / f.hundredths) (λ _. divided (v * 100000) f) i here
    (down_fits (v * 100000) f.hundredths f.least (omega (arith, small v r))) refl

pub lip_lawful : (d : Direction) (v : ℕ) (f : PartialFactor) (s : ℕ) → value_well v ≡ true → (c : Case) → Valid c → Lawful c (lip_meaning d v f s c)
lip_lawful d v f s r c valid i here =
    load_lawful d c valid (λ k. lip_down v f s (nearest_of c.bolts k))
    (λ k. over (lip_above v s (nearest_of c.bolts k)) (lip_below f s (nearest_of c.bolts k)) (proper_lip f s (nearest_of c.bolts k))) i here
    (lip_fits v f s (small v r) (nearest_of c.bolts i)) (lip_rounds v f s (nearest_of c.bolts i))

bent : (v : ℕ) → bending_well v ≡ true → v ≤ 10000
bent v r = grind (arith, nat_tests)

pub flexure_keeps : (v : ℕ) (f : PartialFactor) → bending_well v ≡ true → (c : Case) → Valid c → Lawful c (flexure_meaning v f c)
flexure_keeps v f r c valid i here = flexure_lawful c valid i v f (bent v r)
