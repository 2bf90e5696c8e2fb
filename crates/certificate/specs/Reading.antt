-- What is asked of a certificate, question by question.
use Rattle.std.specs.Prelude.{ℕ, List, ◌++◌, Result}
use Rattle.certificate.specs.Asked.{Asked, first_no}
use Rattle.certificate.specs.declared.fault.CertificateFault.{CertificateFault}
use Rattle.certificate.specs.Layout.{offset, section_of, header_asked, layout_asked}
use Rattle.certificate.specs.Rules.{fields_asked, geometry_rules, resistance_rules, ratios_asked}
use Rattle.certificate.specs.Strengths.{list_asked}
use Rattle.certificate.specs.declared.layout.Section.TheVariants.{Geometry, Resistance, Cracked, Uncracked}

-- question 3: the fields of both sections in file order, the ratios last
abbrev pub numbers_asked : List ℕ → Asked
numbers_asked bs =
    fields_asked (offset bs Geometry) (section_of bs Geometry) geometry_rules
    ++ (fields_asked (offset bs Resistance) (section_of bs Resistance) resistance_rules
    ++ ratios_asked (offset bs Geometry) (section_of bs Geometry))

-- question 4: the list for cracked concrete, then the one for uncracked
abbrev pub strengths_asked : List ℕ → Asked
strengths_asked bs =
    list_asked (offset bs Cracked) (section_of bs Cracked) ++ list_asked (offset bs Uncracked) (section_of bs Uncracked)

-- questions 1 to 4
abbrev pub certificate_asked : List ℕ → Asked
certificate_asked bs = header_asked bs ++ (layout_asked bs ++ (numbers_asked bs ++ strengths_asked bs))

-- the answer to all of them: the first no is the refusal
unfoldable pub refusal : List ℕ → Result Unit CertificateFault
refusal bs = first_no (certificate_asked bs)
