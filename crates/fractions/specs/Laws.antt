-- The laws of fractions that a reader may lean on.
--   Ordered   AtMost is an order, sums and products rise with it, and the ends of a bracket stand in order
use Rattle.std.specs.Prelude.{ℕ, ◌<◌}
use Rattle.fractions.specs.Fractions.{Fraction, AtMost, plus, times, Bracket}

pub record Ordered : Type 0 where
  pub reflexive : (x : Fraction) → AtMost x x
  pub transitive : (x y z : Fraction) → AtMost x y → AtMost y z → AtMost x z
  pub sums_rise : (x y u v : Fraction) → AtMost x y → AtMost u v → AtMost (plus x u) (plus y v)
  pub products_rise : (x y u v : Fraction) → AtMost x y → AtMost u v → AtMost (times x u) (times y v)
  pub brackets_stand : (m : ℕ) → 0 < m → (x low high : Fraction) → Bracket m x low high → AtMost low high
