-- The exact share of a load, read with one end of the influence length above the line and one in the sum.
--   spread-of x ds          the sum of x - d over the distances below x, over the lower number of x
--   quotient n d            n over d (over 1 where d is 0, which no reading that counts has)
--   reading F x y d ds      F·(x - d) over the sum of y - d
--   Beyond x ds             x lies beyond the nearest anchor
use Rattle.std.specs.Prelude.{ℕ, ◌+◌, ◌-◌, ◌*◌, ◌<◌, List, [], ◌∷◌}
use Rattle.std.proofs.Common.{arith}
use Rattle.fractions.specs.Fractions.{Fraction, less}

abbrev pub spread_of : Fraction → List ℕ → ℕ
spread_of x [] = 0
spread_of x (d ∷ ds) = (less x d).above + spread_of x ds

pub after_one : (d : ℕ) → 0 < (d - 1) + 1
after_one d = omega arith

abbrev pub quotient : ℕ → ℕ → Fraction
quotient n d = record { above = n; below = (d - 1) + 1; proper = after_one d }

abbrev pub reading : ℕ → Fraction → Fraction → ℕ → List ℕ → Fraction
reading F x y d ds = quotient (F * (less x d).above * y.below) (x.below * spread_of y ds)

abbrev pub Beyond : Fraction → List ℕ → Type 0
Beyond x ds = 0 < spread_of x ds
