-- The ranges of a certificate's numbers, under their names.
use Rattle.std.specs.Prelude.{◌≡◌, ℕ, ◌*◌, ◌/◌, ◌<◌, ◌≤◌, ◌⊎◌, List, length}
use Rattle.certificate.specs.Strengths.{strength_at, factor_at}
use Rattle.certificate.specs.declared.fields.Geometry.{Geometry}
use Rattle.certificate.specs.declared.fields.CharacteristicValues.{CharacteristicValues}
use Rattle.certificate.specs.declared.fields.PartialFactors.{PartialFactors}

pub record Between (least most n : ℕ) : Type 0 where
  pub from : least ≤ n
  pub to : n ≤ most

pub record GeometryInRange (g : Geometry) : Type 0 where
  pub depth : Between 400 2500 g.embedment_depth
  pub width : Between 150 800 g.channel_width
  pub height : Between 100 600 g.channel_height
  pub cone_cracked : Between 30 130 g.cone_factor_cracked
  pub cone_uncracked : Between 30 130 g.cone_factor_uncracked
  pub edge_cracked : Between 10 110 g.edge_factor_cracked
  pub edge_uncracked : Between 10 110 g.edge_factor_uncracked
  pub pryout : Between 10 20 g.pryout_factor
  pub lip_tension : Between 200 3000 g.lip_spacing_tension
  pub lip_shear : Between 200 3000 g.lip_spacing_shear
  pub inertia : Between 4000 200000 g.moment_of_inertia
  pub flat : 10 * g.channel_height ≤ 4 * g.embedment_depth
  pub narrow : 10 * g.channel_width ≤ 7 * g.embedment_depth

abbrev pub Value : ℕ → Type 0
Value n = Between 1000 500000 n

pub record ValuesInRange (v : CharacteristicValues) : Type 0 where
  pub anchor : Value v.anchor
  pub connection : Value v.connection
  pub lip : Value v.lip
  pub bolt : Value v.bolt
  pub flexure : Between 100 10000 v.flexure
  pub pullout : Value v.pullout
  pub bolt_shear : Value v.bolt_shear
  pub lip_shear : Value v.lip_shear
  pub anchor_shear : Value v.anchor_shear ⊎ (v.anchor_shear ≡ 0)
  pub connection_shear : Value v.connection_shear ⊎ (v.connection_shear ≡ 0)

abbrev pub Factor : ℕ → Type 0
Factor n = Between 100 300 n

pub record FactorsInRange (f : PartialFactors) : Type 0 where
  pub anchor : Factor f.anchor
  pub connection : Factor f.connection
  pub lip : Factor f.lip
  pub bolt : Factor f.bolt
  pub flexure : Factor f.flexure
  pub bolt_shear : Factor f.bolt_shear
  pub lip_shear : Factor f.lip_shear
  pub anchor_shear : Factor f.anchor_shear
  pub connection_shear : Factor f.connection_shear
  pub concrete : Factor f.concrete

-- a list of strength classes: 1 to 64 entries, strengths strictly rising
pub record ListInRange (bs : List ℕ) : Type 0 where
  pub whole : length bs ≡ 4 * (length bs / 4)
  pub some : 1 ≤ length bs / 4
  pub few : length bs / 4 ≤ 64
  pub strengths : (k : ℕ) → k < length bs / 4 → Between 12 75 (strength_at bs k)
  pub rising : (j k : ℕ) → j < k → k < length bs / 4 → strength_at bs j < strength_at bs k
  pub factors : (k : ℕ) → k < length bs / 4 → Between 20 400 (factor_at bs k)
