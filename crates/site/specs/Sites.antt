-- What a site says.
--   numbers_of site    its numbers, as they are written
--   read_as answer     the numbers of the site that was made, or the refusal
use Rattle.std.specs.Prelude.{ℕ, cond, Ok, Err, Result}
use Rattle.bolts.specs.declared.refusal.Refusal.{Refusal}
use Rattle.certificate.specs.declared.lookup.Concrete.{Concrete}
use Rattle.certificate.specs.declared.lookup.Concrete.TheVariants.{Cracked, Uncracked}
use Rattle.site.specs.declared.numbers.SiteNumbers.{SiteNumbers}
use Rattle.site.specs.declared.site.Site.{Site}

abbrev pub state_number : Concrete → ℕ
state_number Cracked = 1
state_number Uncracked = 0

abbrev pub numbers_of : Site → SiteNumbers
numbers_of s = record {
  strength = s.strength;
  cracked = state_number s.concrete;
  edge_distance = s.edge_distance;
  left_corner = s.left_corner;
  right_corner = s.right_corner;
  thickness = s.thickness;
  dense = cond s.dense 1 0;
  edge_factor = s.edge_factor;
  anchors = s.anchors;
  spacing = s.spacing;
}

abbrev pub read_as : Result Site Refusal → Result SiteNumbers Refusal
read_as (Ok s) = Ok (numbers_of s)
read_as (Err e) = Err e
