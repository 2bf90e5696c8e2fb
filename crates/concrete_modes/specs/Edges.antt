-- The concrete edge in shear as a failure mode, by both editions. The allowance is 10 millionths.
--   edge_well k f c b p           the factor 10 to 110 tenths, the strength 12 to 75 N/mm², the edge distance 250 to 5,000
--                                 tenths, the channel width 150 to 800 tenths, the factor p 100 to 140 hundredths
--   edge_spacing c b              the characteristic spacing in µm
--   Scaled y R                    the readings R, each times y
--   edge_meaning S x p f lo hi c  the edge about each anchor: x, with the readings lo and hi, times p over f
--   LowSecond, HighSecond         the readings of k·√f·c^(4/3)
--   LowFirst, HighFirst           the readings of the root of N
use Rattle.std.specs.Prelude.{ℕ, ◌+◌, ◌*◌, Bool, ◌&&◌, nat_le}
use Rattle.fractions.specs.Fractions.{Fraction, PowerAtMost, PowerAtLeast, whole, over, times}
use Rattle.bolts.specs.declared.bolt.Direction.TheVariants.{Shear}
use Rattle.forces.specs.Cases.{Case}
use Rattle.failure.specs.Meanings.{Readings, Exactly, Meaning}
use Rattle.groups.specs.Groups.{group_effect}
use Rattle.groups.specs.declared.spacing.CharacteristicSpacing.{CharacteristicSpacing}
use Rattle.steel_modes.specs.Quotients.{proper_factor}
use Rattle.steel_modes.specs.Anchored.{on_anchors}
use Rattle.steel_modes.specs.declared.design.PartialFactor.{PartialFactor}
use Rattle.concrete.specs.Edge.{edge_first, edge_second, edge_square, edge_resistance, LowRoots, HighRoots, second_read}
use Rattle.concrete_modes.specs.Effects.{LowGroup, HighGroup}
use Rattle.concrete_modes.specs.declared.edge.EdgeBasis.{EdgeBasis}

abbrev pub edge_well : ℕ → ℕ → ℕ → ℕ → ℕ → Bool
edge_well k f c b p =
    nat_le 10 k
    && (nat_le k 110 && (nat_le 12 f && (nat_le f 75 && (nat_le 250 c && (nat_le c 5000 && (nat_le 150 b && (nat_le b 800 && (nat_le 100 p && nat_le p 140))))))))

abbrev pub well_of : EdgeBasis → Bool
well_of b = edge_well b.k b.strength b.distance b.width b.p

abbrev pub edge_spacing : ℕ → ℕ → ℕ
edge_spacing c b = 400 * c + 200 * b

abbrev pub Scaled : Fraction → Readings → Readings
Scaled y R q = (r : Fraction) × R r × Exactly (times y r) q

abbrev pub edge_meaning : CharacteristicSpacing → ℕ → ℕ → PartialFactor → Readings → Readings → Case → Meaning
edge_meaning S x p f lo hi c = record {
  places = on_anchors c;
  allowance = 10;
  direction = Shear;
  effect = λ i. group_effect S.um c Shear i;
  resistance = λ i. edge_resistance x p f.hundredths;
  low_effect = λ i. LowGroup S c Shear i;
  high_effect = λ i. HighGroup S c Shear i;
  low_resistance = λ i. Scaled (over p f.hundredths (proper_factor f)) lo;
  high_resistance = λ i. Scaled (over p f.hundredths (proper_factor f)) hi;
}

abbrev pub LowSecond : ℕ → ℕ → ℕ → Readings
LowSecond k f c r = (h : LowRoots f c) × Exactly (second_read k c h.strength h.distance) r

abbrev pub HighSecond : ℕ → ℕ → ℕ → Readings
HighSecond k f c r = (h : HighRoots f c) × Exactly (second_read k c h.strength h.distance) r

abbrev pub LowFirst : ℕ → Readings
LowFirst N r = PowerAtMost 2 r (whole N)

abbrev pub HighFirst : ℕ → Readings
HighFirst N r = PowerAtLeast 2 r (whole N)

-- edition 2
abbrev pub second_meaning : CharacteristicSpacing → EdgeBasis → PartialFactor → Case → Meaning
second_meaning S b f c =
    edge_meaning S (edge_second b.k b.strength b.distance) b.p f (LowSecond b.k b.strength b.distance)
    (HighSecond b.k b.strength b.distance) c

-- edition 1
abbrev pub first_meaning : CharacteristicSpacing → EdgeBasis → PartialFactor → Case → Meaning
first_meaning S b f c =
    edge_meaning S (edge_first b.k b.strength b.distance) b.p f (LowFirst (edge_square b.k b.strength b.distance))
    (HighFirst (edge_square b.k b.strength b.distance)) c
