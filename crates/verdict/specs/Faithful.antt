-- What the figures that are shown of a line owe to the exact ones.
--   Faithful w m i s   the figures s of the line m at its place i, from 0, with w the whole load in N: the effect is in
--                      no case below the exact one, and above it by at most a thousandth of the whole load and 1 N; the
--                      resistance is in no case above the exact one, and below it by at most its shortfall
use Rattle.std.specs.Prelude.{ℕ, ◌≤◌}
use Rattle.fractions.specs.Fractions.{Fraction, AtMost, whole, plus}
use Rattle.failure.specs.Meanings.{Meaning, excess, shortfall}
use Rattle.verdict.specs.declared.answer.Shown.{Shown}

pub record Faithful (w : ℕ) (m : Meaning) (i : ℕ) (s : Shown) : Type 0 where
  pub effect_fits : s.effect ≤ 4000000000
  pub resistance_fits : s.resistance ≤ 2000000000
  pub effect_safe : (q : Fraction) → m.low_effect i q → AtMost q (whole s.effect)
  pub resistance_safe : (q : Fraction) → m.high_resistance i q → AtMost (whole s.resistance) q
  pub effect_close : (q : Fraction) → m.high_effect i q → AtMost (whole s.effect) (plus q (excess w))
  pub resistance_close : (q : Fraction) → m.low_resistance i q → AtMost q (plus (whole s.resistance) (shortfall m.allowance q))
