-- The exact effect on an anchor of a group.
--   LowGroup S c d i, HighGroup S c d i   its readings at the i-th anchor, S the characteristic spacing
use Rattle.std.specs.Prelude.{ℕ}
use Rattle.bolts.specs.declared.bolt.Direction.{Direction}
use Rattle.forces.specs.Cases.{Case}
use Rattle.failure.specs.Meanings.{Readings, Exactly}
use Rattle.groups.specs.Groups.{LowChoice, HighChoice, low_effect, high_effect}
use Rattle.groups.specs.declared.spacing.CharacteristicSpacing.{CharacteristicSpacing}

abbrev pub LowGroup : CharacteristicSpacing → Case → Direction → ℕ → Readings
LowGroup S c d i q = (h : LowChoice S.um S.some c i) × Exactly (low_effect h d) q

abbrev pub HighGroup : CharacteristicSpacing → Case → Direction → ℕ → Readings
HighGroup S c d i q = (h : HighChoice S.um S.some c i) × Exactly (high_effect h d) q
