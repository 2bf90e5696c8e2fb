-- Fractions in order.
use Prim.Native.Nat.{ℕ, ◌*◌, ◌^◌, ◌≤◌, ◌<◌}
use native.Mathlib.Nat.{mul-le-mul, mul-le-mul_right, le_of_mul-le-mul_right, mul-sub}
use native.Mathlib.Omega.{arith}
use Rattle.fractions.specs.Fractions.{Fraction, AtMost, whole, plus, times, less, Bracket}
use Rattle.fractions.specs.Laws.{Ordered}
use Rattle.fractions.proofs.Powers.{mul_pow, root_le}

pub at_most_refl : (x : Fraction) → AtMost x x
at_most_refl x = omega arith

pub at_most_trans : (x y z : Fraction) → AtMost x y → AtMost y z → AtMost x z
at_most_trans x y z h k =
    le_of_mul-le-mul_right {k = y.below}
    (omega (arith, mul-le-mul_right z.below h, mul-le-mul_right x.below k)) y.proper

pub plus_rises : (x y u v : Fraction) → AtMost x y → AtMost u v → AtMost (plus x u) (plus y v)
plus_rises x y u v h k =
    omega (arith, mul-le-mul_right (u.below * v.below) h, mul-le-mul_right (x.below * y.below) k)

pub times_rises : (x y u v : Fraction) → AtMost x y → AtMost u v → AtMost (times x u) (times y v)
times_rises x y u v h k = omega (arith, mul-le-mul h k)

pub whole_rises : (m n : ℕ) → m ≤ n → AtMost (whole m) (whole n)
whole_rises m n h = omega arith

pub less_rises : (x y : Fraction) (n : ℕ) → AtMost x y → AtMost (less x n) (less y n)
less_rises x y n h =
    omega (arith, mul-sub y.below x.above (n * x.below), mul-sub x.below y.above (n * y.below))

pub bracket_order : (m : ℕ) → 0 < m → (x low high : Fraction) → Bracket m x low high → AtMost low high
bracket_order m p x low high b =
    root_le m (low.above * high.below) (high.above * low.below) p
    (rw (mul_pow low.above high.below m, mul_pow high.above low.below m)
    (le_of_mul-le-mul_right {k = x.below}
    (omega (arith, mul-le-mul_right (high.below ^ m) b.not_above, mul-le-mul_right (low.below ^ m) b.not_below)) x.proper))

pub ordered : Ordered
ordered = record {
  reflexive = at_most_refl;
  transitive = at_most_trans;
  sums_rise = plus_rises;
  products_rise = times_rises;
  brackets_stand = bracket_order;
}
