-- The sheet of a channel on a site, from the bytes bs of its certificate and the numbers n of the site.
--   geometry_in, values_in, factors_in, list_in   what the certificate says
--   opening_in bs t        the numbers that the load case is opened with
--   in_range bs n          question 5: every number of the site is in range for this channel
--   IsPrepared bs t p      p holds the sheet with the certificate's and the site's numbers
--   SheetFor bs n answer   the sheet, or the first question answered no: of the certificate, of the site's numbers, of
--                          the strength class
use Rattle.std.specs.Prelude.{◌≡◌, ℕ, Bool, true, false, List, Some, None, Ok, Err, Option, Result}
use Rattle.bolts.specs.declared.refusal.Refusal.{Refusal}
use Rattle.bolts.specs.declared.refusal.Refusal.TheVariants.{Opening}
use Rattle.forces.specs.declared.opening.Opening as opened
use Rattle.certificate.specs.Layout.{section_of}
use Rattle.certificate.specs.Reading.{refusal}
use Rattle.certificate.specs.Content.{edition_of, geometry_of, values_of, factors_of}
use Rattle.certificate.specs.Lookup.{list_section, Absent}
use Rattle.certificate.specs.declared.layout.Section.TheVariants as section
use Rattle.certificate.specs.declared.fields.Geometry.{Geometry}
use Rattle.certificate.specs.declared.fields.CharacteristicValues.{CharacteristicValues}
use Rattle.certificate.specs.declared.fields.PartialFactors.{PartialFactors}
use Rattle.certificate.specs.declared.lookup.Concrete.{Concrete}
use Rattle.site.specs.Ranges.{site_in_range}
use Rattle.site.specs.Sites.{numbers_of}
use Rattle.site.specs.declared.numbers.SiteNumbers.{SiteNumbers}
use Rattle.site.specs.declared.site.Site as declared
use Rattle.rating.specs.Lines.{IsSheet}
use Rattle.rating.specs.Strengths.{FactorIn}
use Rattle.rating.specs.declared.prepared.Prepared.{Prepared}
use Rattle.rating.specs.declared.fault.SheetFault.{SheetFault}
use Rattle.rating.specs.declared.fault.SheetFault.TheVariants as fault

abbrev pub geometry_in : List ℕ → Geometry
geometry_in bs = geometry_of (section_of bs section.Geometry)

abbrev pub values_in : List ℕ → CharacteristicValues
values_in bs = values_of (section_of bs section.Resistance)

abbrev pub factors_in : List ℕ → PartialFactors
factors_in bs = factors_of (section_of bs section.Resistance)

abbrev pub list_in : List ℕ → Concrete → List ℕ
list_in bs s = section_of bs (list_section s)

abbrev pub opening_in : List ℕ → declared.Site → opened.Opening
opening_in bs t =
    record { anchors = t.anchors; spacing = t.spacing; inertia = (geometry_in bs).moment_of_inertia }

abbrev pub in_range : List ℕ → SiteNumbers → Bool
in_range bs n =
    site_in_range (edition_of bs) (geometry_in bs).embedment_depth (geometry_in bs).moment_of_inertia n

-- on the site t
pub record IsPrepared (bs : List ℕ) (t : declared.Site) (p : Prepared) : Type 0 where
  pub strength_factor : ℕ
  pub listed : FactorIn (list_in bs t.concrete) t.strength (Some strength_factor)
  pub lines : IsSheet (edition_of bs) (geometry_in bs) (values_in bs) (factors_in bs) strength_factor t p.sheet
  pub opened : p.opening ≡ opening_in bs t

-- the site whose numbers are n, with P; it is there exactly where they are in range
pub record OnSite (bs : List ℕ) (n : SiteNumbers) (P : declared.Site → Type 0) : Type 0 where
  pub fits : in_range bs n ≡ true
  pub site : declared.Site
  pub numbers : numbers_of site ≡ n
  pub holds : P site

abbrev pub SheetFor : List ℕ → SiteNumbers → Result Prepared SheetFault → Type 0
SheetFor bs n (Ok p) = (refusal bs ≡ Ok tt) × OnSite bs n (λ t. IsPrepared bs t p)
SheetFor bs n (Err (fault.Certificate f)) = refusal bs ≡ Err f
SheetFor bs n (Err (fault.Site e)) = (refusal bs ≡ Ok tt) × (in_range bs n ≡ false) × (e ≡ Opening)
SheetFor bs n (Err fault.Strength) =
    (refusal bs ≡ Ok tt) × OnSite bs n (λ t. Absent (list_in bs t.concrete) t.strength)

-- what is known of the parts on the way
abbrev pub SiteFor : List ℕ → SiteNumbers → Result declared.Site Refusal → Type 0
SiteFor bs n (Ok t) = (in_range bs n ≡ true) × (numbers_of t ≡ n)
SiteFor bs n (Err e) = (in_range bs n ≡ false) × (e ≡ Opening)

abbrev pub PreparedOn : List ℕ → declared.Site → Option Prepared → Type 0
PreparedOn bs t (Some p) = IsPrepared bs t p
PreparedOn bs t None = Absent (list_in bs t.concrete) t.strength
