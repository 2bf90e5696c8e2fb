-- The resistance of the lips: the value over the factor, times (spacing + distance) over twice the spacing where the
-- nearest other bolt lies nearer than the spacing.
--   lip_above v s o, lip_below f s o    the two numbers of the fraction, o the distance to the nearest other bolt
--   lip_down v f s o                    the fraction, down
use Rattle.std.specs.Prelude.{ℕ, ◌+◌, ◌*◌, ◌/◌, cond, Some, None, Option, nat_lt}
use Rattle.steel_modes.specs.declared.design.PartialFactor.{PartialFactor}

abbrev pub lip_above : ℕ → ℕ → Option ℕ → ℕ
lip_above v s None = v * 100000
lip_above v s (Some d) = cond (nat_lt d s) (v * 100000 * (s + d)) (v * 100000)

abbrev pub lip_below : PartialFactor → ℕ → Option ℕ → ℕ
lip_below f s None = f.hundredths
lip_below f s (Some d) = cond (nat_lt d s) (f.hundredths * (2 * s)) f.hundredths

abbrev pub lip_down : ℕ → PartialFactor → ℕ → Option ℕ → ℕ
lip_down v f s None = v * 100000 / f.hundredths
lip_down v f s (Some d) = cond (nat_lt d s) (v * 100000 * (s + d) / f.hundredths / (2 * s)) (v * 100000 / f.hundredths)
