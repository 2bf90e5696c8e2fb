-- The lines that every text has, in their order: a name and a number that fits the field's width.
use Rattle.std.specs.Prelude.{ℕ, ◌<◌, ◌≤◌, List, [], ◌∷◌, codes, slice_index, slice_index_or}

-- a field's name and the largest number that it holds
pub record Field : Type 0 where
  pub name : List ℕ
  pub most : ℕ

abbrev pub edition : Field
edition = record { name = codes "edition"; most = 255 }

-- a field of 16 bits
abbrev pub two : List ℕ → Field
two name = record { name = name; most = 65535 }

-- a field of 32 bits
abbrev pub four : List ℕ → Field
four name = record { name = name; most = 4294967295 }

-- edition, geometry, characteristic values, partial factors
abbrev pub table : List Field
table =
    edition
    ∷ two (codes "embedment_depth")
    ∷ two (codes "channel_width")
    ∷ two (codes "channel_height")
    ∷ two (codes "cone_factor_cracked")
    ∷ two (codes "cone_factor_uncracked")
    ∷ two (codes "edge_factor_cracked")
    ∷ two (codes "edge_factor_uncracked")
    ∷ two (codes "pryout_factor")
    ∷ two (codes "lip_spacing_tension")
    ∷ two (codes "lip_spacing_shear")
    ∷ four (codes "moment_of_inertia")
    ∷ four (codes "value_anchor")
    ∷ four (codes "value_connection")
    ∷ four (codes "value_lip")
    ∷ four (codes "value_bolt")
    ∷ four (codes "value_flexure")
    ∷ four (codes "value_pullout")
    ∷ four (codes "value_bolt_shear")
    ∷ four (codes "value_lip_shear")
    ∷ four (codes "value_anchor_shear")
    ∷ four (codes "value_connection_shear")
    ∷ two (codes "factor_anchor")
    ∷ two (codes "factor_connection")
    ∷ two (codes "factor_lip")
    ∷ two (codes "factor_bolt")
    ∷ two (codes "factor_flexure")
    ∷ two (codes "factor_bolt_shear")
    ∷ two (codes "factor_lip_shear")
    ∷ two (codes "factor_anchor_shear")
    ∷ two (codes "factor_connection_shear")
    ∷ two (codes "factor_concrete")
    ∷ []

-- the fields of every text, in their order
unfoldable pub fields : List Field
fields = table

-- each number fits its field
abbrev pub Fitting : List ℕ → Type 0
Fitting ns = (k : ℕ) → k < 32 → slice_index ns k ≤ (slice_index_or table k edition).most
