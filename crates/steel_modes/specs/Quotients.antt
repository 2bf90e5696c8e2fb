-- Characteristic values over their partial factor.
--   proper_factor f     a partial factor is not 0
--   divided n f         n over the factor f
use Rattle.std.specs.Prelude.{ℕ, ◌<◌}
use Rattle.std.proofs.Common.{arith}
use Rattle.fractions.specs.Fractions.{Fraction, over}
use Rattle.steel_modes.specs.declared.design.PartialFactor.{PartialFactor}

pub proper_factor : (f : PartialFactor) → 0 < f.hundredths
proper_factor f = omega (arith, f.least)

abbrev pub divided : ℕ → PartialFactor → Fraction
divided n f = over n f.hundredths (proper_factor f)
