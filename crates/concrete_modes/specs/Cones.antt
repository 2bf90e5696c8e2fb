-- The concrete cone as a failure mode, in tension, and the pry-out, in shear.
--   cone_well k f h m             the factor 30 to 130 tenths, the strength 12 to 75 N/mm², the depth 400 to 2,500 tenths,
--                                 the multiple 10 to 20 tenths
--   LowBasic, HighBasic           the readings of the exact resistance: 100 over γ times an end of the root
--   cone_meaning d S b f c        the cone about each anchor, S its characteristic spacing
use Rattle.std.specs.Prelude.{ℕ, Bool, ◌&&◌, nat_le}
use Rattle.bolts.specs.declared.bolt.Direction.{Direction}
use Rattle.forces.specs.Cases.{Case}
use Rattle.failure.specs.Meanings.{Readings, Exactly, Meaning}
use Rattle.groups.specs.Groups.{group_effect}
use Rattle.groups.specs.declared.spacing.CharacteristicSpacing.{CharacteristicSpacing}
use Rattle.steel_modes.specs.Quotients.{proper_factor}
use Rattle.steel_modes.specs.Anchored.{on_anchors}
use Rattle.steel_modes.specs.declared.design.PartialFactor.{PartialFactor}
use Rattle.concrete.specs.Cone.{cone_square, cone_value, cone_resistance, LowCone, HighCone, low_cone, high_cone}
use Rattle.concrete_modes.specs.Effects.{LowGroup, HighGroup}
use Rattle.concrete_modes.specs.declared.cone.ConeBasis.{ConeBasis}

abbrev pub cone_well : ℕ → ℕ → ℕ → ℕ → Bool
cone_well k f h m =
    nat_le 30 k && (nat_le k 130 && (nat_le 12 f && (nat_le f 75 && (nat_le 400 h && (nat_le h 2500 && (nat_le 10 m && nat_le m 20))))))

abbrev pub LowBasic : ℕ → PartialFactor → Readings
LowBasic N f q = (l : LowCone N) × Exactly (low_cone f.hundredths (proper_factor f) l) q

abbrev pub HighBasic : ℕ → PartialFactor → Readings
HighBasic N f q = (h : HighCone N) × Exactly (high_cone f.hundredths (proper_factor f) h) q

abbrev pub square_of : ConeBasis → ℕ
square_of b = cone_square b.k b.strength b.depth b.multiple

abbrev pub value_of : ConeBasis → ℕ
value_of b = cone_value b.k b.strength b.depth b.multiple

abbrev pub cone_meaning : Direction → CharacteristicSpacing → ConeBasis → PartialFactor → Case → Meaning
cone_meaning d S b f c = record {
  places = on_anchors c;
  allowance = 0;
  direction = d;
  effect = λ i. group_effect S.um c d i;
  resistance = λ i. cone_resistance (value_of b) f.hundredths;
  low_effect = λ i. LowGroup S c d i;
  high_effect = λ i. HighGroup S c d i;
  low_resistance = λ i. LowBasic (square_of b) f;
  high_resistance = λ i. HighBasic (square_of b) f;
}
