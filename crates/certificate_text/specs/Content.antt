-- The numbers of the fixed lines, under the names of the certificate.
use Rattle.std.specs.Prelude.{ℕ, List, vec_items, slice_index}
use Rattle.certificate.specs.Content.{Content}
use Rattle.certificate.specs.declared.fields.Geometry.{Geometry}
use Rattle.certificate.specs.declared.fields.CharacteristicValues.{CharacteristicValues}
use Rattle.certificate.specs.declared.fields.PartialFactors.{PartialFactors}
use Rattle.certificate.specs.declared.fields.StrengthFactor.{StrengthFactor}
use Rattle.certificate.specs.declared.fields.Fields.{Fields}
use Rattle.certificate_text.specs.declared.text.CertificateText.{CertificateText}

abbrev pub geometry_from : List ℕ → Geometry
geometry_from ns = record {
  embedment_depth = slice_index ns 1;
  channel_width = slice_index ns 2;
  channel_height = slice_index ns 3;
  cone_factor_cracked = slice_index ns 4;
  cone_factor_uncracked = slice_index ns 5;
  edge_factor_cracked = slice_index ns 6;
  edge_factor_uncracked = slice_index ns 7;
  pryout_factor = slice_index ns 8;
  lip_spacing_tension = slice_index ns 9;
  lip_spacing_shear = slice_index ns 10;
  moment_of_inertia = slice_index ns 11;
}

abbrev pub values_from : List ℕ → CharacteristicValues
values_from ns = record {
  anchor = slice_index ns 12;
  connection = slice_index ns 13;
  lip = slice_index ns 14;
  bolt = slice_index ns 15;
  flexure = slice_index ns 16;
  pullout = slice_index ns 17;
  bolt_shear = slice_index ns 18;
  lip_shear = slice_index ns 19;
  anchor_shear = slice_index ns 20;
  connection_shear = slice_index ns 21;
}

abbrev pub factors_from : List ℕ → PartialFactors
factors_from ns = record {
  anchor = slice_index ns 22;
  connection = slice_index ns 23;
  lip = slice_index ns 24;
  bolt = slice_index ns 25;
  flexure = slice_index ns 26;
  bolt_shear = slice_index ns 27;
  lip_shear = slice_index ns 28;
  anchor_shear = slice_index ns 29;
  connection_shear = slice_index ns 30;
  concrete = slice_index ns 31;
}

-- the content that numbers and two lists make
abbrev pub content_from : List ℕ → List StrengthFactor → List StrengthFactor → Content
content_from ns cracked uncracked = record {
  edition = slice_index ns 0;
  geometry = geometry_from ns;
  values = values_from ns;
  factors = factors_from ns;
  cracked = cracked;
  uncracked = uncracked;
}

-- what a text in memory holds
abbrev pub content_in : CertificateText → Content
content_in t = record {
  edition = t.edition;
  geometry = t.geometry;
  values = t.values;
  factors = t.factors;
  cracked = vec_items t.cracked;
  uncracked = vec_items t.uncracked;
}

-- what fields to be written say
abbrev pub said_by : Fields → Content
said_by f = record {
  edition = f.edition;
  geometry = f.geometry;
  values = f.values;
  factors = f.factors;
  cracked = f.cracked.now;
  uncracked = f.uncracked.now;
}
