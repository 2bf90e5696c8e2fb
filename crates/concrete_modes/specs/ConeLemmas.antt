-- The cone keeps what every mode owes.
use Rattle.std.proofs.Common.{ℕ, ◌+◌, ◌*◌, ◌/◌, ◌≤◌, refl, arith}
use Rattle.fractions.specs.Fractions.{whole, plus}
use Rattle.fractions.proofs.Powers.{pow_two}
use Rattle.fractions.proofs.Roots.{square_below}
use Rattle.roots.specs.Extremes.{Greatest}
use Rattle.roots.proofs.Roots.{square_root_is}
use Rattle.bolts.specs.Loads.{total_load}
use Rattle.bolts.specs.declared.bolt.Direction.{Direction}
use Rattle.forces.specs.Cases.{Case, Valid}
use Rattle.failure.specs.Meanings.{LawfulAt}
use Rattle.failure.specs.Shortfalls.{near_at_most}
use Rattle.groups.specs.declared.spacing.CharacteristicSpacing.{CharacteristicSpacing}
use Rattle.steel_modes.specs.Quotients.{proper_factor}
use Rattle.steel_modes.specs.declared.design.PartialFactor.{PartialFactor}
use Rattle.failure.proofs.Quotients.{equal_below, equal_above, down_fits}
use Rattle.concrete.specs.Cone.{cone_resistance, LowCone, HighCone, low_cone, high_cone}
use Rattle.concrete.proofs.Cone.{cone_safe, cone_close}
use Rattle.concrete_modes.specs.Cones.{cone_meaning, square_of, value_of}
use Rattle.concrete_modes.specs.declared.cone.ConeBasis.{ConeBasis}
use Rattle.concrete_modes.specs.Groups.{effect_le, some_low, some_high, group_safe, group_close}

low_root : (N : ℕ) → LowCone N
low_root N = record { root = whole 0; is_low = omega arith }

high_root : (N : ℕ) → HighCone N
high_root N = record { root = whole (N + 1); is_high = rw (pow_two (N + 1)) (omega arith) }

root_le : (x n : ℕ) → x * x ≤ n → n ≤ 792187500000000000 → x ≤ 2000000000
root_le x n h small = square_below x 2000000000 (omega arith)

module _ (d : Direction) (S : CharacteristicSpacing) (b : ConeBasis) (f : PartialFactor) (c : Case) (v : Valid c) (small : square_of b ≤ 7921875000000000000) where
  pub cone_lawful : (i : ℕ) → LawfulAt (total_load d c.bolts) (cone_meaning d S b f c) i
  cone_lawful i =
      let N = square_of b in
      let x = value_of b in
      let γ = f.hundredths in
      let pos = proper_factor f in
      let is : Greatest (λ n. n * n ≤ N / 10) x = square_root_is (N / 10) (omega (arith, small)) in
      let R = cone_resistance x γ in
      record {
        effect_fits = effect_le S.um S.some c d i v;
        resistance_fits = down_fits (x * 100) γ f.least (omega (arith, root_le x (N / 10) is.fits (omega (arith, small))));
        some_low_effect = some_low S c d i v;
        some_high_effect = some_high S c d i v;
        some_low_resistance = (low_cone γ pos (low_root N), (low_root N, refl));
        some_high_resistance = (high_cone γ pos (high_root N), (high_root N, refl));
        effect_safe = group_safe S c d i v;
        resistance_safe = λ q r. equal_above q (high_cone γ pos r.0) (whole R) r.1 (cone_safe N x γ f.least is pos r.0);
        effect_close = λ _. group_close S c d i v;
        resistance_close = λ _ q r.
            let near = equal_below q (low_cone γ pos r.0) (plus (whole R) (whole 2)) r.1 (cone_close N x γ f.least is pos r.0) in
            near_at_most 0 R q (omega (arith, near));
      }
