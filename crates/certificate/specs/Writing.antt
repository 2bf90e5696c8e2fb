-- The bytes that are written, without gaps: the head, the two sections of numbers, and the two lists.
use Rattle.std.specs.Prelude.{All, ◌≡◌, ℕ, ◌+◌, ◌*◌, ◌^◌, ◌<◌, ◌≤◌, List, [], ◌∷◌, ◌++◌, length, drop, Ok, Err, Result, nat_le}
use Rattle.std.specs.List.{flat_map}
use Rattle.certificate.specs.Bytes.{le16, le32}
use Rattle.certificate.specs.Asked.{Asked, first_no, fault}
use Rattle.certificate.specs.Reading.{certificate_asked}
use Rattle.certificate.specs.Content.{Content, reading}
use Rattle.certificate.specs.declared.fault.CertificateFault.{CertificateFault}
use Rattle.certificate.specs.declared.fault.Question.TheVariants.{Buffer}
use Rattle.certificate.specs.declared.fields.Fields.{Fields}
use Rattle.certificate.specs.declared.fields.Geometry.{Geometry}
use Rattle.certificate.specs.declared.fields.CharacteristicValues.{CharacteristicValues}
use Rattle.certificate.specs.declared.fields.PartialFactors.{PartialFactors}
use Rattle.certificate.specs.declared.fields.StrengthFactor.{StrengthFactor}

-- what the caller hands in
abbrev pub content : Fields → Content
content f = record {
  edition = f.edition;
  geometry = f.geometry;
  values = f.values;
  factors = f.factors;
  cracked = f.cracked.now;
  uncracked = f.uncracked.now;
}

-- edition, number of sections, and the pairs of sections that follow each other from byte 18
abbrev pub pairs : ℕ → ℕ → List ℕ
pairs cracked uncracked = 18 ∷ 24 ∷ 42 ∷ 60 ∷ 102 ∷ (4 * cracked) ∷ (102 + 4 * cracked) ∷ (4 * uncracked) ∷ []

abbrev pub head_bytes : ℕ → ℕ → ℕ → List ℕ
head_bytes edition cracked uncracked = edition ∷ 4 ∷ flat_map le16 (pairs cracked uncracked)

abbrev pub geometry_shorts : Geometry → List ℕ
geometry_shorts g =
    g.embedment_depth
    ∷ g.channel_width
    ∷ g.channel_height
    ∷ g.cone_factor_cracked
    ∷ g.cone_factor_uncracked
    ∷ g.edge_factor_cracked
    ∷ g.edge_factor_uncracked
    ∷ g.pryout_factor
    ∷ g.lip_spacing_tension
    ∷ g.lip_spacing_shear
    ∷ []

abbrev pub geometry_bytes : Geometry → List ℕ
geometry_bytes g = flat_map le16 (geometry_shorts g) ++ flat_map le32 (g.moment_of_inertia ∷ [])

abbrev pub values_list : CharacteristicValues → List ℕ
values_list v =
    v.anchor
    ∷ v.connection
    ∷ v.lip
    ∷ v.bolt
    ∷ v.flexure
    ∷ v.pullout
    ∷ v.bolt_shear
    ∷ v.lip_shear
    ∷ v.anchor_shear
    ∷ v.connection_shear
    ∷ []

abbrev pub factors_list : PartialFactors → List ℕ
factors_list f =
    f.anchor
    ∷ f.connection
    ∷ f.lip
    ∷ f.bolt
    ∷ f.flexure
    ∷ f.bolt_shear
    ∷ f.lip_shear
    ∷ f.anchor_shear
    ∷ f.connection_shear
    ∷ f.concrete
    ∷ []

abbrev pub resistance_bytes : CharacteristicValues → PartialFactors → List ℕ
resistance_bytes v f = flat_map le32 (values_list v) ++ flat_map le16 (factors_list f)

abbrev pub entry_bytes : StrengthFactor → List ℕ
entry_bytes e = le16 e.strength ++ le16 e.factor

abbrev pub list_bytes : List StrengthFactor → List ℕ
list_bytes xs = flat_map entry_bytes xs

unfoldable pub written : Content → List ℕ
written c =
    head_bytes c.edition (length c.cracked) (length c.uncracked)
    ++ (geometry_bytes c.geometry
    ++ (resistance_bytes c.values c.factors ++ (list_bytes c.cracked ++ list_bytes c.uncracked)))

-- questions 1 to 4 of the bytes that would be written, then the buffer's length
abbrev pub writing_asked : Content → ℕ → Asked
writing_asked c room = certificate_asked (written c) ++ ((nat_le (length (written c)) room, fault Buffer 0) ∷ [])

unfoldable pub writing_refusal : Content → ℕ → Result Unit CertificateFault
writing_refusal c room = first_no (writing_asked c room)

-- granted: the buffer begins with the certificate and is else as it was, and the certificate reads as what was handed
-- in; refused: the first no, and the buffer is as it was
abbrev pub Wrote : Content → List ℕ → List ℕ → Result ℕ CertificateFault → Type 0
Wrote c old new (Ok n) =
    (writing_refusal c (length old) ≡ Ok tt)
    × (n ≡ length (written c))
    × (n ≤ length old)
    × (new ≡ written c ++ drop n old)
    × (reading (written c) ≡ Ok c)
Wrote c old new (Err e) = (writing_refusal c (length old) ≡ Err e) × (new ≡ old)

-- numbers of one, two and four bytes
abbrev pub Fits8 : ℕ → Type 0
Fits8 n = n < 2 ^ 8

abbrev pub Fits16 : ℕ → Type 0
Fits16 n = n < 2 ^ 16

abbrev pub Fits32 : ℕ → Type 0
Fits32 n = n < 2 ^ 32

abbrev pub EntryFits : StrengthFactor → Type 0
EntryFits e = Fits16 e.strength × Fits16 e.factor

-- every number fits its bytes
pub record Fitting (c : Content) : Type 0 where
  pub shorts : All Fits16 (geometry_shorts c.geometry)
  pub inertia : Fits32 c.geometry.moment_of_inertia
  pub values : All Fits32 (values_list c.values)
  pub factors : All Fits16 (factors_list c.factors)
  pub cracked : All EntryFits c.cracked
  pub uncracked : All EntryFits c.uncracked
