-- The weight of a neighbour's force: exactly (1 - d/S)^(3/2) at the distance d, S the characteristic spacing.
--   weight S d          the weight in millionths, rounded up; 0 from S on
--   LowWeight S d q     q is a low reading of the exact weight: (S - d) over S times a lower end of its root
--   HighWeight S d q    likewise with an upper end
use Rattle.std.specs.Prelude.{ℕ, ◌-◌, ◌*◌, ◌<◌, cond, nat_lt}
use Rattle.fractions.specs.Fractions.{Fraction, PowerAtMost, PowerAtLeast, over, times}
use Rattle.roots.specs.Division.{up}
use Rattle.roots.specs.Roots.{root_up_of}

abbrev pub weight : ℕ → ℕ → ℕ
weight S d = cond (nat_lt d S) (up ((S - d) * root_up_of (S - d) S) S) 0

-- what is left of the spacing
abbrev pub left : (S d : ℕ) → 0 < S → Fraction
left S d pos = over (S - d) S pos

pub record LowWeight (S d : ℕ) (pos : 0 < S) : Type 0 where
  pub root : Fraction
  pub is_low : PowerAtMost 2 root (left S d pos)

pub record HighWeight (S d : ℕ) (pos : 0 < S) : Type 0 where
  pub root : Fraction
  pub is_high : PowerAtLeast 2 root (left S d pos)

abbrev pub low_weight : {S d : ℕ} {pos : 0 < S} → LowWeight S d pos → Fraction
low_weight {S} {d} {pos} w = times (left S d pos) w.root

abbrev pub high_weight : {S d : ℕ} {pos : 0 < S} → HighWeight S d pos → Fraction
high_weight {S} {d} {pos} w = times (left S d pos) w.root
