-- The resistance of the lips is the exact one rounded down, and it fits.
use Rattle.std.proofs.Common.{◌≡◌, ℕ, ◌+◌, ◌*◌, ◌/◌, ◌<◌, ◌≤◌, Bool, true, false, cond, ltb, Some, None, Option, refl, mul-le-mul_right, arith, ltb-true}
use Rattle.std.proofs.Math.Nat.{div-div-eq-div-mul, div-le_of_le-mul}
use Rattle.steel_modes.specs.Shared.{lip_above, lip_below, lip_down}
use Rattle.steel_modes.specs.declared.design.PartialFactor.{PartialFactor}
use Rattle.failure.proofs.Quotients.{down_fits}

module _ (v : ℕ) (f : PartialFactor) (s : ℕ) where
  pub lip_rounds : (o : Option ℕ) → lip_down v f s o ≡ lip_above v s o / lip_below f s o
  lip_rounds None = refl
  lip_rounds (Some d) = step (ltb d s)
    where
      step : (t : Bool) → cond t (v * 100000 * (s + d) / f.hundredths / (2 * s)) (v * 100000 / f.hundredths) ≡ cond t (v * 100000 * (s + d)) (v * 100000) / cond t (f.hundredths * (2 * s)) f.hundredths
      step true = div-div-eq-div-mul (v * 100000 * (s + d)) f.hundredths (2 * s)
      step false = refl

  module _ (small : v ≤ 500000) where
    whole_fits : v * 100000 / f.hundredths ≤ 2000000000
    whole_fits = down_fits (v * 100000) f.hundredths f.least (omega arith)

    shared_fits : (d : ℕ) → d < s → v * 100000 * (s + d) / f.hundredths / (2 * s) ≤ 2000000000
    shared_fits d less =
        let n : v * 100000 * (s + d) ≤ 50000000000 * (2 * s) =
        omega (arith, mul-le-mul_right (s + d) small) in
        let inner : v * 100000 * (s + d) / f.hundredths ≤ 2000000000 * (2 * s) =
        div-le_of_le-mul f.hundredths (omega (arith, mul-le-mul_right (2 * s) f.least)) in
        div-le_of_le-mul (2 * s) (omega arith)

    pub lip_fits : (o : Option ℕ) → lip_down v f s o ≤ 2000000000
    lip_fits None = whole_fits
    lip_fits (Some d) = step (ltb d s) (ltb-true d s)
      where
        step : (t : Bool) → (t ≡ true → d < s) → cond t (v * 100000 * (s + d) / f.hundredths / (2 * s)) (v * 100000 / f.hundredths) ≤ 2000000000
        step true h = shared_fits d (h refl)
        step false h = whole_fits
