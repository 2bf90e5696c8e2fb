-- The edge keeps what every mode owes.
use Rattle.std.proofs.Common.{ℕ, ◌+◌, ◌*◌, ◌/◌, ◌<◌, ◌≤◌, refl, mul-le-mul_right, mul-le-mul_left, div-mul-le_self, arith, lit<}
use Rattle.std.proofs.Math.Nat.{lt-div-mul-add}
use Rattle.fractions.specs.Fractions.{Fraction, AtMost, whole, over, times}
use Rattle.bolts.specs.Loads.{total_load}
use Rattle.bolts.specs.declared.bolt.Direction.TheVariants.{Shear}
use Rattle.forces.specs.Cases.{Case, Valid}
use Rattle.failure.specs.Meanings.{Readings, Exactly, LawfulAt}
use Rattle.failure.specs.Shortfalls.{near_at_most}
use Rattle.groups.specs.declared.spacing.CharacteristicSpacing.{CharacteristicSpacing}
use Rattle.steel_modes.specs.Quotients.{proper_factor}
use Rattle.steel_modes.specs.declared.design.PartialFactor.{PartialFactor}
use Rattle.failure.proofs.Quotients.{equal_below, equal_above, down_fits}
use Rattle.concrete.specs.Edge.{edge_resistance}
use Rattle.concrete_modes.specs.Edges.{edge_meaning}
use Rattle.concrete_modes.specs.Groups.{effect_le, some_low, some_high, group_safe, group_close}

scaled_safe : (x p γ : ℕ) (pos : 0 < γ) (r : Fraction) → AtMost (whole x) r → AtMost (whole (x * p / γ)) (times (over p γ pos) r)
scaled_safe x p γ pos r h = omega (arith, mul-le-mul_right r.below (div-mul-le_self (x * p) γ), mul-le-mul_left p h)

scaled_close : (x p γ : ℕ) → 0 < γ → 100 ≤ γ → p ≤ 140 → (ra rb : ℕ) → ra * 999990 ≤ (x + 1) * (rb * 1000000) → 999990 * (p * ra) ≤ 1000000 * ((x * p / γ + 1000) * (γ * rb))
scaled_close x p γ pos least small ra rb h =
    let d : x * p + p ≤ (x * p / γ + 3) * γ = omega (arith, lt-div-mul-add {a = x * p} pos) in
    let e = mul-le-mul_right rb d in
    omega (arith, mul-le-mul_left p h, e)

abbrev pub nearly : Fraction
nearly = over 999990 1000000 (lit< tt)

-- a bound on a fraction holds for each that is the same number
pub same_times : (T r : Fraction) (z : Fraction) → Exactly T r → AtMost (times T nearly) z → AtMost (times r nearly) z
same_times T r z e h = equal_below (times r nearly) (times T nearly) z (omega (arith, e)) h

module _ (S : CharacteristicSpacing) (x p : ℕ) (f : PartialFactor) (lo hi : Readings) (c : Case) (v : Valid c) (fits : x * p ≤ 200000000000) (small : p ≤ 140) (some-lo : (r : Fraction) × lo r) (some-hi : (r : Fraction) × hi r) (safe : (r : Fraction) → hi r → AtMost (whole x) r) (close : (r : Fraction) → lo r → AtMost (times r nearly) (whole (x + 1))) where
  pub edge_lawful : (i : ℕ) → LawfulAt (total_load Shear c.bolts) (edge_meaning S x p f lo hi c) i
  edge_lawful i =
      let γ = f.hundredths in
      let pos = proper_factor f in
      let y = over p γ pos in
      let R = edge_resistance x p γ in
      record {
        effect_fits = effect_le S.um S.some c Shear i v;
        resistance_fits = down_fits (x * p) γ f.least fits;
        some_low_effect = some_low S c Shear i v;
        some_high_effect = some_high S c Shear i v;
        some_low_resistance = (times y some-lo.0, (some-lo.0, some-lo.1, refl));
        some_high_resistance = (times y some-hi.0, (some-hi.0, some-hi.1, refl));
        effect_safe = group_safe S c Shear i v;
        resistance_safe = λ q r. equal_above q (times y r.0) (whole R) r.2 (scaled_safe x p γ pos r.0 (safe r.0 r.1));
        effect_close = λ _. group_close S c Shear i v;
        resistance_close = λ _ q r.
            let g = r.0 in
            let a = scaled_close x p γ pos f.least small g.above g.below (omega (arith, close g r.1)) in
            let b = same_times (times y g) q (whole (R + 1000)) r.2 (omega (arith, a)) in
            near_at_most 10 R q (omega (arith, b));
      }
