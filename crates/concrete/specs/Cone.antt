-- The concrete cone: factor k in tenths, strength f in N/mm², embedment depth h in tenths, m the factor of pry-out in
-- tenths (10 for the cone itself), partial factor γ in hundredths.
--   cone_square k f h m      ten times the square of the basic value in mN
--   cone_value k f h m       the greatest whole number whose square fits
--   cone_resistance          the value over the partial factor, down, in mN
--   cone_spacing h           the characteristic spacing in µm; cone_edge h half of it, up
use Rattle.std.specs.Prelude.{ℕ, ◌-◌, ◌*◌, ◌/◌, ◌<◌, max}
use Rattle.fractions.specs.Fractions.{Fraction, PowerAtMost, PowerAtLeast, over, times}
use Rattle.roots.specs.Division.{up}
use Rattle.roots.specs.Roots.{square_root_of}
use Rattle.std.proofs.Common.{lit<}

abbrev pub cone_square : ℕ → ℕ → ℕ → ℕ → ℕ
cone_square k f h m = k * k * f * (h * h * h) * (m * m)

abbrev pub cone_value : ℕ → ℕ → ℕ → ℕ → ℕ
cone_value k f h m = square_root_of (cone_square k f h m / 10)

abbrev pub cone_resistance : ℕ → ℕ → ℕ
cone_resistance x γ = x * 100 / γ

abbrev pub cone_spacing : ℕ → ℕ
cone_spacing h = max (up (h * (50400 - 13 * h)) 90) (300 * h)

abbrev pub cone_edge : ℕ → ℕ
cone_edge h = up (cone_spacing h) 2

-- the exact value is the root of a tenth of the square
pub record LowCone (N : ℕ) : Type 0 where
  pub root : Fraction
  pub is_low : PowerAtMost 2 root (over N 10 (lit< tt))

pub record HighCone (N : ℕ) : Type 0 where
  pub root : Fraction
  pub is_high : PowerAtLeast 2 root (over N 10 (lit< tt))

abbrev pub low_cone : {N : ℕ} → (γ : ℕ) → 0 < γ → LowCone N → Fraction
low_cone γ pos c = times (over 100 γ pos) c.root

abbrev pub high_cone : {N : ℕ} → (γ : ℕ) → 0 < γ → HighCone N → Fraction
high_cone γ pos c = times (over 100 γ pos) c.root
