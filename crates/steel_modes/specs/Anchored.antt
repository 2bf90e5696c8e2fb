-- Modes that compare the force on each anchor with one resistance.
--   LowForce c d k, HighForce c d k   the low and high readings of the exact force on the k-th anchor
--   on_anchors c, nowhere             all anchors; no place
--   force_meaning p d n f c           the mode at the places p, whose resistance is n hundredths of a mN over f
--   anchor_steel_meaning d v f c      the steel of an anchor: v N over f, no place where v is 0
--   pull_out_meaning v s f c          the pull-out of an anchor: v N times s hundredths over f
use Rattle.std.specs.Prelude.{ℕ, ◌*◌, ◌/◌, cond, ◌==◌}
use Rattle.influence.specs.Exact.{low_length, high_length}
use Rattle.bolts.specs.declared.bolt.Direction.{Direction}
use Rattle.bolts.specs.declared.bolt.Direction.TheVariants.{Tension}
use Rattle.forces.specs.Cases.{Case, force_read, BeyondAll}
use Rattle.forces.specs.Exact.{EndsOf, force}
use Rattle.failure.specs.Meanings.{Exactly, Readings, Meaning}
use Rattle.failure.specs.declared.places.Places.{Places}
use Rattle.failure.specs.declared.places.PlaceKind.TheVariants.{Anchors, Nothing}
use Rattle.steel_modes.specs.Quotients.{divided}
use Rattle.steel_modes.specs.declared.design.PartialFactor.{PartialFactor}

abbrev pub LowForce : Case → Direction → ℕ → Readings
LowForce c d k q = (e : EndsOf c.opening) × Exactly (force_read (low_length e) (high_length e) c d k) q

abbrev pub HighForce : Case → Direction → ℕ → Readings
HighForce c d k q =
    (e : EndsOf c.opening) × BeyondAll (low_length e) c × Exactly (force_read (high_length e) (low_length e) c d k) q

abbrev pub on_anchors : Case → Places
on_anchors c = record { kind = Anchors; count = c.opening.anchors }

abbrev pub nowhere : Places
nowhere = record { kind = Nothing; count = 0 }

abbrev pub force_meaning : Places → Direction → ℕ → PartialFactor → Case → Meaning
force_meaning p d n f c = record {
  places = p;
  allowance = 0;
  direction = d;
  effect = λ i. force c d i;
  resistance = λ i. n / f.hundredths;
  low_effect = λ i. LowForce c d i;
  high_effect = λ i. HighForce c d i;
  low_resistance = λ i. Exactly (divided n f);
  high_resistance = λ i. Exactly (divided n f);
}

abbrev pub anchor_steel_meaning : Direction → ℕ → PartialFactor → Case → Meaning
anchor_steel_meaning d v f c = force_meaning (cond (v == 0) nowhere (on_anchors c)) d (v * 100000) f c

abbrev pub pull_out_meaning : ℕ → ℕ → PartialFactor → Case → Meaning
pull_out_meaning v s f c = force_meaning (on_anchors c) Tension (v * 1000 * s) f c
