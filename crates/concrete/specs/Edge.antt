-- The concrete edge in shear: factor k in tenths, strength f in N/mm², edge distance c in tenths, factor p and partial
-- factor γ in hundredths. Values in mN.
--   edge_second k f c      by the second edition: k·√f·c^(4/3)
--   edge_first k f c       by the first edition: k·√f·c^(3/2)
--   edge_resistance x p γ  the value times p over the partial factor, down
use Rattle.std.specs.Prelude.{ℕ, ◌*◌, ◌/◌, ◌^◌}
use Rattle.std.proofs.Common.{lit<}
use Rattle.fractions.specs.Fractions.{Fraction, PowerAtMost, PowerAtLeast, whole, over, times}
use Rattle.roots.specs.Roots.{square_root_of, cube_root_of}

abbrev pub strength_root : ℕ → ℕ
strength_root f = square_root_of (f * 10 ^ 12)

abbrev pub distance_root : ℕ → ℕ
distance_root c = cube_root_of (c * 10 ^ 14)

abbrev pub edge_second : ℕ → ℕ → ℕ → ℕ
edge_second k f c = k * strength_root f * c * distance_root c / 10 ^ 10

abbrev pub edge_square : ℕ → ℕ → ℕ → ℕ
edge_square k f c = k * k * f * (c * c * c) * 10

abbrev pub edge_first : ℕ → ℕ → ℕ → ℕ
edge_first k f c = square_root_of (edge_square k f c)

abbrev pub edge_resistance : ℕ → ℕ → ℕ → ℕ
edge_resistance x p γ = x * p / γ

-- ends of the square root of the strength and of the cube root of the distance in mm
pub record LowRoots (f c : ℕ) : Type 0 where
  pub strength : Fraction
  pub distance : Fraction
  pub strength_low : PowerAtMost 2 strength (whole f)
  pub distance_low : PowerAtMost 3 distance (over c 10 (lit< tt))

pub record HighRoots (f c : ℕ) : Type 0 where
  pub strength : Fraction
  pub distance : Fraction
  pub strength_high : PowerAtLeast 2 strength (whole f)
  pub distance_high : PowerAtLeast 3 distance (over c 10 (lit< tt))

-- the exact value: 10·k·c times both roots, in mN
abbrev pub second_read : ℕ → ℕ → Fraction → Fraction → Fraction
second_read k c f d = times (whole (10 * k * c)) (times f d)
