-- The bending of the channel.
--   flexure_meaning v f c     v newton-metres over f, against the moment at each bolt
use Rattle.std.specs.Prelude.{ℕ, ◌*◌, ◌/◌}
use Rattle.bolts.specs.declared.bolt.Direction.TheVariants.{Tension}
use Rattle.forces.specs.Cases.{Case}
use Rattle.failure.specs.Meanings.{Exactly, Meaning}
use Rattle.steel_modes.specs.Quotients.{divided}
use Rattle.steel_modes.specs.Bolted.{on_bolts}
use Rattle.steel_modes.specs.Spans.{moment_at, moment_read}
use Rattle.steel_modes.specs.declared.design.PartialFactor.{PartialFactor}

abbrev pub flexure_meaning : ℕ → PartialFactor → Case → Meaning
flexure_meaning v f c = record {
  places = on_bolts c;
  allowance = 0;
  direction = Tension;
  effect = λ i. moment_at c i;
  resistance = λ i. v * 100000 / f.hundredths;
  low_effect = λ i. Exactly (moment_read c i);
  high_effect = λ i. Exactly (moment_read c i);
  low_resistance = λ i. Exactly (divided (v * 100000) f);
  high_resistance = λ i. Exactly (divided (v * 100000) f);
}
