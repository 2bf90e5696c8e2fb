-- The exact influence length, 13 times the 20th root of the moment of inertia times the square root of the spacing,
-- through fractions that enclose the two roots.
--   millimetres s                a spacing given in tenths
--   Ends i s                     a lower and an upper end of each root
--   low_length, high_length      the length in micrometres at the lower ends, at the upper ends
--   NotAbove i s l               l is at most the length at any upper ends
--   NotBelow i s l               l is at least the length at any lower ends
use Rattle.std.specs.Prelude.{ℕ}
use Rattle.std.proofs.Common.{lit<}
use Rattle.fractions.specs.Fractions.{Fraction, AtMost, Bracket, whole, over, times}

abbrev pub millimetres : ℕ → Fraction
millimetres s = over s 10 (lit< tt)

pub record Ends (i s : ℕ) : Type 0 where
  pub inertia_low : Fraction
  pub inertia_high : Fraction
  pub spacing_low : Fraction
  pub spacing_high : Fraction
  pub inertia_root : Bracket 20 (whole i) inertia_low inertia_high
  pub spacing_root : Bracket 2 (millimetres s) spacing_low spacing_high

abbrev pub low_length : {i s : ℕ} → Ends i s → Fraction
low_length e = times (whole 13000) (times e.inertia_low e.spacing_low)

abbrev pub high_length : {i s : ℕ} → Ends i s → Fraction
high_length e = times (whole 13000) (times e.inertia_high e.spacing_high)

abbrev pub NotAbove : ℕ → ℕ → ℕ → Type 0
NotAbove i s l = (e : Ends i s) → AtMost (whole l) (high_length e)

abbrev pub NotBelow : ℕ → ℕ → ℕ → Type 0
NotBelow i s l = (e : Ends i s) → AtMost (low_length e) (whole l)
