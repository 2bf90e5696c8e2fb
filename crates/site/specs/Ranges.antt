-- The ranges of a site's numbers. Lengths are in tenths of a millimetre, strengths in N/mm².
--   between least most n          n lies in the range
--   flag n                        n is 0 or 1
--   strength_known edition f      cube strength 15 to 75 in edition 1, cylinder strength 12 to 60 in edition 2
--   edge_factor_known p           the factor for the edge's reinforcement is 1.00, 1.20 or 1.40
--   site_in_range e h I n         every number of a site is in range, and the member is at least as thick as the
--                                 embedment depth h; I is the channel's moment of inertia in mm⁴
--   state_of n                    the concrete is cracked where the number is not 0
use Rattle.std.specs.Prelude.{ℕ, Bool, cond, ◌&&◌, ◌||◌, ◌==◌, nat_le}
use Rattle.certificate.specs.declared.fields.Edition.{Edition}
use Rattle.certificate.specs.declared.fields.Edition.TheVariants.{First, Second}
use Rattle.certificate.specs.declared.lookup.Concrete.{Concrete}
use Rattle.certificate.specs.declared.lookup.Concrete.TheVariants.{Cracked, Uncracked}
use Rattle.site.specs.declared.numbers.SiteNumbers.{SiteNumbers}

abbrev pub between : ℕ → ℕ → ℕ → Bool
between least most n = nat_le least n && nat_le n most

abbrev pub flag : ℕ → Bool
flag n = nat_le n 1

abbrev pub strength_known : Edition → ℕ → Bool
strength_known First f = between 15 75 f
strength_known Second f = between 12 60 f

abbrev pub edge_factor_known : ℕ → Bool
edge_factor_known p = p == 100 || (p == 120 || p == 140)

abbrev pub concrete_in_range : Edition → SiteNumbers → Bool
concrete_in_range e n = strength_known e n.strength && (flag n.cracked && flag n.dense)

abbrev pub edges_in_range : SiteNumbers → Bool
edges_in_range n =
    between 250 5000 n.edge_distance
    && (between 250 30000 n.left_corner && (between 250 30000 n.right_corner && edge_factor_known n.edge_factor))

abbrev pub member_in_range : ℕ → SiteNumbers → Bool
member_in_range h n = between 600 20000 n.thickness && nat_le h n.thickness

abbrev pub opening_in_range : ℕ → SiteNumbers → Bool
opening_in_range I n = between 2 12 n.anchors && (between 500 2500 n.spacing && between 4000 200000 I)

abbrev pub site_in_range : Edition → ℕ → ℕ → SiteNumbers → Bool
site_in_range e h I n = concrete_in_range e n && (edges_in_range n && (member_in_range h n && opening_in_range I n))

abbrev pub state_of : ℕ → Concrete
state_of n = cond (n == 0) Uncracked Cracked
