-- Sums of lists of fractions.
use mathlib.Core.List.{List, [], ◌∷◌}
use Prim.Native.Nat.{ℕ, ◌+◌}
use native.Mathlib.Nat.{mul-le-mul_right}
use native.Mathlib.Omega.{arith}
use Rattle.fractions.specs.Fractions.{Fraction, AtMost, whole, plus, total}
use Rattle.fractions.proofs.Orders.{plus_rises}

-- two fractions, each at most a whole number
pub plus_whole : (x y : Fraction) (m n : ℕ) → AtMost x (whole m) → AtMost y (whole n) → AtMost (plus x y) (whole (m + n))
plus_whole x y m n h k = omega (arith, mul-le-mul_right y.below h, mul-le-mul_right x.below k)

-- two fractions, each at least a whole number
pub whole_plus : (x y : Fraction) (m n : ℕ) → AtMost (whole m) x → AtMost (whole n) y → AtMost (whole (m + n)) (plus x y)
whole_plus x y m n h k = omega (arith, mul-le-mul_right y.below h, mul-le-mul_right x.below k)

-- one list beside another, place by place, and as long
abbrev pub Each : (Fraction → Fraction → Type 0) → List Fraction → List Fraction → Type 0
Each R [] [] = Unit {0}
Each R [] (y ∷ ys) = ⊥
Each R (x ∷ xs) [] = ⊥
Each R (x ∷ xs) (y ∷ ys) = R x y × Each R xs ys

pub total_rises : (xs ys : List Fraction) → Each AtMost xs ys → AtMost (total xs) (total ys)
total_rises [] [] h = omega arith
total_rises [] (y ∷ ys) h = absurd h
total_rises (x ∷ xs) [] h = absurd h
total_rises (x ∷ xs) (y ∷ ys) (h, k) = plus_rises x y (total xs) (total ys) h (total_rises xs ys k)
