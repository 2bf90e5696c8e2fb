-- What the bytes of a certificate say.
--   content_of bs    the numbers and lists in bs
--   reading bs       the content, or the fault of the first question that fails
use Rattle.std.specs.Prelude.{◌≡◌, ℕ, ◌/◌, cond, List, map, length, Ok, Err, Result, ◌==◌, slice_index}
use Rattle.std.specs.List.{range_with_len}
use Rattle.certificate.specs.Bytes.{u16_at, u32_at}
use Rattle.certificate.specs.Layout.{section_of}
use Rattle.certificate.specs.Strengths.{strength_at, factor_at}
use Rattle.certificate.specs.Reading.{refusal}
use Rattle.certificate.specs.declared.fault.CertificateFault.{CertificateFault}
use Rattle.certificate.specs.declared.fields.Geometry.{Geometry}
use Rattle.certificate.specs.declared.fields.CharacteristicValues.{CharacteristicValues}
use Rattle.certificate.specs.declared.fields.PartialFactors.{PartialFactors}
use Rattle.certificate.specs.declared.fields.StrengthFactor.{StrengthFactor}
use Rattle.certificate.specs.declared.fields.Edition.{Edition}
use Rattle.certificate.specs.declared.fields.Edition.TheVariants.{First, Second}
use Rattle.certificate.specs.declared.layout.Section.TheVariants as section
use Rattle.certificate.specs.declared.certificate.Certificate.{Certificate}

pub record Content : Type 0 where
  pub edition : ℕ
  pub geometry : Geometry
  pub values : CharacteristicValues
  pub factors : PartialFactors
  pub cracked : List StrengthFactor
  pub uncracked : List StrengthFactor

abbrev pub edition_of : List ℕ → Edition
edition_of bs = cond (slice_index bs 0 == 1) First Second

abbrev pub geometry_of : List ℕ → Geometry
geometry_of bs = record {
  embedment_depth = u16_at bs 0;
  channel_width = u16_at bs 2;
  channel_height = u16_at bs 4;
  cone_factor_cracked = u16_at bs 6;
  cone_factor_uncracked = u16_at bs 8;
  edge_factor_cracked = u16_at bs 10;
  edge_factor_uncracked = u16_at bs 12;
  pryout_factor = u16_at bs 14;
  lip_spacing_tension = u16_at bs 16;
  lip_spacing_shear = u16_at bs 18;
  moment_of_inertia = u32_at bs 20;
}

abbrev pub values_of : List ℕ → CharacteristicValues
values_of bs = record {
  anchor = u32_at bs 0;
  connection = u32_at bs 4;
  lip = u32_at bs 8;
  bolt = u32_at bs 12;
  flexure = u32_at bs 16;
  pullout = u32_at bs 20;
  bolt_shear = u32_at bs 24;
  lip_shear = u32_at bs 28;
  anchor_shear = u32_at bs 32;
  connection_shear = u32_at bs 36;
}

abbrev pub factors_of : List ℕ → PartialFactors
factors_of bs = record {
  anchor = u16_at bs 40;
  connection = u16_at bs 42;
  lip = u16_at bs 44;
  bolt = u16_at bs 46;
  flexure = u16_at bs 48;
  bolt_shear = u16_at bs 50;
  lip_shear = u16_at bs 52;
  anchor_shear = u16_at bs 54;
  connection_shear = u16_at bs 56;
  concrete = u16_at bs 58;
}

abbrev pub entry_at : List ℕ → ℕ → StrengthFactor
entry_at bs k = record { strength = strength_at bs k; factor = factor_at bs k }

abbrev pub entries : List ℕ → List StrengthFactor
entries bs = map (entry_at bs) (range_with_len 0 (length bs / 4))

unfoldable pub content_of : List ℕ → Content
content_of bs = record {
  edition = slice_index bs 0;
  geometry = geometry_of (section_of bs section.Geometry);
  values = values_of (section_of bs section.Resistance);
  factors = factors_of (section_of bs section.Resistance);
  cracked = entries (section_of bs section.Cracked);
  uncracked = entries (section_of bs section.Uncracked);
}

-- what is read: the content, or the first fault
abbrev pub granted : {A : Type 0} → Result Unit CertificateFault → A → Result A CertificateFault
granted (Ok x) a = Ok a
granted (Err e) a = Err e

abbrev pub reading : List ℕ → Result Content CertificateFault
reading bs = granted (refusal bs) (content_of bs)

-- what a certificate in memory says
abbrev pub read_as : Result Certificate CertificateFault → Result Content CertificateFault
read_as (Ok c) = Ok (content_of c.bytes.now)
read_as (Err e) = Err e

-- a certificate holds the caller's own bytes, and they answer every question
abbrev pub HeldBy : Result Certificate CertificateFault → List ℕ → Type 0
HeldBy (Ok c) bs = (c.bytes.now ≡ bs) × (refusal bs ≡ Ok tt)
HeldBy (Err e) bs = refusal bs ≡ Err e
