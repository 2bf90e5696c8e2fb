-- Modes that compare the load of each bolt with a resistance.
--   load_at c d i                 the load of the i-th bolt in mN
--   on_bolts c                    all bolts
--   load_meaning d c r x          the mode whose resistance is r i, and exactly x i, at the place i
--   bolt_steel_meaning d v f c    the steel of a bolt: v N over f
use Rattle.std.specs.Prelude.{ℕ, ◌*◌, ◌/◌, length}
use Rattle.fractions.specs.Fractions.{Fraction, whole}
use Rattle.bolts.specs.Bolts.{bolt_at}
use Rattle.bolts.specs.Loads.{load_of}
use Rattle.bolts.specs.declared.bolt.Direction.{Direction}
use Rattle.forces.specs.Cases.{Case, mn}
use Rattle.failure.specs.Meanings.{Exactly, Meaning}
use Rattle.failure.specs.declared.places.Places.{Places}
use Rattle.failure.specs.declared.places.PlaceKind.TheVariants.{Bolts}
use Rattle.steel_modes.specs.Quotients.{divided}
use Rattle.steel_modes.specs.declared.design.PartialFactor.{PartialFactor}

abbrev pub load_at : Case → Direction → ℕ → ℕ
load_at c d i = mn (load_of d (bolt_at c.bolts i))

abbrev pub on_bolts : Case → Places
on_bolts c = record { kind = Bolts; count = length c.bolts }

abbrev pub load_meaning : Direction → Case → (ℕ → ℕ) → (ℕ → Fraction) → Meaning
load_meaning d c r x = record {
  places = on_bolts c;
  allowance = 0;
  direction = d;
  effect = λ i. load_at c d i;
  resistance = r;
  low_effect = λ i. Exactly (whole (load_at c d i));
  high_effect = λ i. Exactly (whole (load_at c d i));
  low_resistance = λ i. Exactly (x i);
  high_resistance = λ i. Exactly (x i);
}

abbrev pub bolt_steel_meaning : Direction → ℕ → PartialFactor → Case → Meaning
bolt_steel_meaning d v f c = load_meaning d c (λ i. v * 100000 / f.hundredths) (λ i. divided (v * 100000) f)
