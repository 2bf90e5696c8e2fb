-- A quotient rounded down, as a resistance, or up, as an effect, against the readings of the exact quotient.
use Rattle.std.proofs.Common.{ℕ, ◌+◌, ◌*◌, ◌/◌, ◌<◌, ◌≤◌, mul-le-mul_right, div-mul-le_self, le_of_mul-le-mul_right, arith}
use native.Mathlib.Nat.{lt-div-mul-add, div-le_of_le-mul}
use Rattle.fractions.specs.Fractions.{Fraction, AtMost, whole, over, plus}
use Rattle.fractions.proofs.Orders.{at_most_trans}
use Rattle.roots.specs.Division.{up}
use Rattle.roots.proofs.Quotients.{up_least, up_most}
use Rattle.failure.specs.Meanings.{Exactly, excess, shortfall}
use Rattle.failure.specs.Shortfalls.{Near, near_at_most}

-- a bound of a fraction holds of each that is the same number
pub equal_below : (q x y : Fraction) → Exactly x q → AtMost x y → AtMost q y
equal_below q x y e h = at_most_trans q x y (omega arith) h

pub equal_above : (q x y : Fraction) → Exactly x q → AtMost y x → AtMost y q
equal_above q x y e h = at_most_trans y x q h (omega arith)

-- a resistance fits, as a quotient by 100 or more
pub down_fits : (n d : ℕ) → 100 ≤ d → n ≤ 200000000000 → n / d ≤ 2000000000
down_fits n d least small = div-le_of_le-mul d (omega (arith, mul-le-mul_right 2000000000 least))

-- at most 1 mN below q
pub near_by_one : (a r : ℕ) (q : Fraction) → AtMost q (whole (r + 1)) → Near a r q
near_by_one a r q h = omega arith

module _ (n d : ℕ) (pos : 0 < d) (q : Fraction) (e : Exactly (over n d pos) q) where
  pub down_safe : AtMost (whole (n / d)) q
  down_safe =
      let h = mul-le-mul_right q.below (div-mul-le_self n d) in
      let k : (n / d * q.below) * d ≤ (q.above * 1) * d = omega arith in
      le_of_mul-le-mul_right k pos

  pub down_close : (a : ℕ) → AtMost q (plus (whole (n / d)) (shortfall a q))
  down_close a =
      let h : n ≤ (n / d + 1) * d = omega (arith, lt-div-mul-add {a = n} pos) in
      let k : (q.above * 1) * d ≤ ((n / d + 1) * q.below) * d = omega (arith, mul-le-mul_right q.below h) in
      near_at_most a (n / d) q (near_by_one a (n / d) q (le_of_mul-le-mul_right k pos))

  pub up_safe : AtMost q (whole (up n d))
  up_safe =
      let h = mul-le-mul_right q.below (up_least n d pos) in
      let k : (q.above * 1) * d ≤ (up n d * q.below) * d = omega arith in
      le_of_mul-le-mul_right k pos

  pub up_close : (w : ℕ) → AtMost (whole (up n d)) (plus q (excess w))
  up_close w =
      let h : up n d * d ≤ n + d = omega (arith, up_most n d pos) in
      let k : (up n d * q.below) * d ≤ (q.above + 1 * q.below) * d = omega (arith, mul-le-mul_right q.below h) in
      let near = le_of_mul-le-mul_right k pos in
      omega arith
