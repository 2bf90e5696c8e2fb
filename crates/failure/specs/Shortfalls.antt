-- The shortfall of a resistance, multiplied out.
use Rattle.std.specs.Prelude.{ℕ, ◌+◌, ◌*◌, ◌/◌, ◌≤◌}
use Rattle.std.proofs.Common.{mul-le-mul_right, le_of_mul-le-mul_right, arith}
use Rattle.fractions.specs.Fractions.{Fraction, AtMost, whole, plus}
use Rattle.failure.specs.Meanings.{shortfall}

-- r and the shortfall at the allowance a reach q
abbrev pub Near : ℕ → ℕ → Fraction → Type 0
Near a r q = 1000000 * q.above ≤ a * q.above + 1000000 * ((r + 1000 + a / 50) * q.below)

pub near_at_most : (a r : ℕ) (q : Fraction) → Near a r q → AtMost q (plus (whole r) (shortfall a q))
near_at_most a r q h = omega (arith, mul-le-mul_right q.below h)

pub at_most_near : (a r : ℕ) (q : Fraction) → AtMost q (plus (whole r) (shortfall a q)) → Near a r q
at_most_near a r q h =
    let k : (1000000 * q.above) * q.below ≤ (a * q.above + 1000000 * ((r + 1000 + a / 50) * q.below)) * q.below = omega arith in
    le_of_mul-le-mul_right k q.proper

-- a greater allowance, with the same number
pub near_rises : (a r : ℕ) (q : Fraction) → Near a r q → Near (a + 50) r q
near_rises a r q h =
    let step : a / 50 ≤ (a + 50) / 50 = omega arith in
    omega (arith, mul-le-mul_right q.below step)
