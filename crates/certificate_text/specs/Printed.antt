-- The text of a certificate's content.
use Rattle.std.specs.Prelude.{ℕ, ◌<◌, List, [], ◌∷◌, ◌++◌, drop, codes, decimal, slice_index}
use Rattle.std.specs.List.{flat_map}
use Rattle.certificate.specs.Content.{Content, content_of, edition_of}
use Rattle.certificate.specs.declared.fields.Edition.{Edition}
use Rattle.certificate.specs.Editions.{edition_byte}
use Rattle.certificate.specs.declared.fields.Geometry.{Geometry}
use Rattle.certificate.specs.declared.fields.CharacteristicValues.{CharacteristicValues}
use Rattle.certificate.specs.declared.fields.PartialFactors.{PartialFactors}
use Rattle.certificate.specs.declared.fields.StrengthFactor.{StrengthFactor}
use Rattle.certificate_text.specs.Names.{Field, fields}

-- a name, a space, a number, a line feed
abbrev pub field_text : List ℕ → ℕ → List ℕ
field_text name n = name ++ (32 ∷ (decimal n ++ (10 ∷ [])))

-- a name and two numbers
abbrev pub entry_text : List ℕ → StrengthFactor → List ℕ
entry_text name e = name ++ (32 ∷ (decimal e.strength ++ (32 ∷ (decimal e.factor ++ (10 ∷ [])))))

-- a line for each field
abbrev pub fields_text : List Field → List ℕ → List ℕ
fields_text [] ns = []
fields_text (f ∷ fs) ns = field_text f.name (slice_index ns 0) ++ fields_text fs (drop 1 ns)

-- a line for each entry
abbrev pub list_text : List ℕ → List StrengthFactor → List ℕ
list_text name es = flat_map (entry_text name) es

-- the numbers of the fixed lines
abbrev pub numbers_from : ℕ → Geometry → CharacteristicValues → PartialFactors → List ℕ
numbers_from edition g v f =
    edition
    ∷ g.embedment_depth
    ∷ g.channel_width
    ∷ g.channel_height
    ∷ g.cone_factor_cracked
    ∷ g.cone_factor_uncracked
    ∷ g.edge_factor_cracked
    ∷ g.edge_factor_uncracked
    ∷ g.pryout_factor
    ∷ g.lip_spacing_tension
    ∷ g.lip_spacing_shear
    ∷ g.moment_of_inertia
    ∷ v.anchor
    ∷ v.connection
    ∷ v.lip
    ∷ v.bolt
    ∷ v.flexure
    ∷ v.pullout
    ∷ v.bolt_shear
    ∷ v.lip_shear
    ∷ v.anchor_shear
    ∷ v.connection_shear
    ∷ f.anchor
    ∷ f.connection
    ∷ f.lip
    ∷ f.bolt
    ∷ f.flexure
    ∷ f.bolt_shear
    ∷ f.lip_shear
    ∷ f.anchor_shear
    ∷ f.connection_shear
    ∷ f.concrete
    ∷ []

-- the fixed lines, then both lists
unfoldable pub text_of : Content → List ℕ
text_of c =
    fields_text fields (numbers_from c.edition c.geometry c.values c.factors)
    ++ (list_text (codes "cracked") c.cracked ++ list_text (codes "uncracked") c.uncracked)

abbrev pub edition_number : Edition → ℕ
edition_number e = edition_byte e

-- the content of a certificate, with the edition by which it is rated
unfoldable pub rated_content : List ℕ → Content
rated_content bs = record {
  edition = edition_number (edition_of bs);
  geometry = (content_of bs).geometry;
  values = (content_of bs).values;
  factors = (content_of bs).factors;
  cracked = (content_of bs).cracked;
  uncracked = (content_of bs).uncracked;
}

-- each item is a byte
abbrev pub Bytes : List ℕ → Type 0
Bytes bs = (i : ℕ) → slice_index bs i < 256
