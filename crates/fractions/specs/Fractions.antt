-- Fractions: two whole numbers, the second never 0, compared crosswise.
--   AtMost x y                 x is at most y
--   whole n, over n d p        a whole number; n over d
--   plus, times, less x n      sum, product; x less the whole number n, 0 past it
--   PowerAtMost m x y          the m-th power of x is at most y
--   PowerAtLeast m x y         the m-th power of x is at least y
--   Bracket m x low high       low and high enclose the m-th root of x
--   total xs                   the sum of a list
use Rattle.std.specs.Prelude.{List, [], ◌∷◌, ℕ, ◌+◌, ◌-◌, ◌*◌, ◌^◌, ◌≤◌, ◌<◌}
use Rattle.std.proofs.Common.{mul-pos, lit<}

pub record Fraction : Type 0 where
  pub above : ℕ
  pub below : ℕ
  pub proper : 0 < below

abbrev pub AtMost : Fraction → Fraction → Type 0
AtMost x y = x.above * y.below ≤ y.above * x.below

abbrev pub whole : ℕ → Fraction
whole n = record { above = n; below = 1; proper = lit< tt }

abbrev pub over : (n d : ℕ) → 0 < d → Fraction
over n d p = record { above = n; below = d; proper = p }

abbrev pub plus : Fraction → Fraction → Fraction
plus x y =
    record {
      above = x.above * y.below + y.above * x.below;
      below = x.below * y.below;
      proper = mul-pos x.proper y.proper;
    }

abbrev pub times : Fraction → Fraction → Fraction
times x y = record { above = x.above * y.above; below = x.below * y.below; proper = mul-pos x.proper y.proper }

abbrev pub less : Fraction → ℕ → Fraction
less x n = record { above = x.above - n * x.below; below = x.below; proper = x.proper }

abbrev pub PowerAtMost : ℕ → Fraction → Fraction → Type 0
PowerAtMost m x y = x.above ^ m * y.below ≤ y.above * x.below ^ m

abbrev pub PowerAtLeast : ℕ → Fraction → Fraction → Type 0
PowerAtLeast m x y = y.above * x.below ^ m ≤ x.above ^ m * y.below

pub record Bracket (m : ℕ) (x : Fraction) (low high : Fraction) : Type 0 where
  pub not_above : PowerAtMost m low x
  pub not_below : PowerAtLeast m high x

abbrev pub total : List Fraction → Fraction
total [] = whole 0
total (x ∷ xs) = plus x (total xs)
