-- The bounds of numbers in range.
use Rattle.std.proofs.Common.{◌≡◌, ℕ, true, arith}
use Rattle.std.specs.Int.{IsInRange}
use Rattle.std.proofs.lemmas.Bool.{and_parts}
use Rattle.std.proofs.lemmas.Bool.Decides.{nat_tests}
use Rattle.certificate.specs.declared.fields.Edition.{Edition}
use Rattle.certificate.specs.declared.fields.Edition.TheVariants.{First, Second}
use Rattle.site.specs.declared.numbers.SiteNumbers.{SiteNumbers}
use Rattle.site.specs.Ranges.{between, strength_known, edge_factor_known, concrete_in_range, edges_in_range, member_in_range, site_in_range}

bounds : (least most n : ℕ) → between least most n ≡ true → IsInRange least most n
bounds least most n h = grind (arith, nat_tests)

strength_bounds : (e : Edition) (f : ℕ) → strength_known e f ≡ true → IsInRange 12 75 f
strength_bounds First f h = grind (arith, nat_tests)
strength_bounds Second f h = grind (arith, nat_tests)

factor_bounds : (p : ℕ) → edge_factor_known p ≡ true → IsInRange 100 140 p
factor_bounds p h = grind (arith, nat_tests)

pub record AllBounds (n : SiteNumbers) : Type 0 where
  pub strength : IsInRange 12 75 n.strength
  pub edge : IsInRange 250 5000 n.edge_distance
  pub left : IsInRange 250 30000 n.left_corner
  pub right : IsInRange 250 30000 n.right_corner
  pub thickness : IsInRange 600 20000 n.thickness
  pub known : edge_factor_known n.edge_factor ≡ true
  pub factor : IsInRange 100 140 n.edge_factor
  pub anchors : IsInRange 2 12 n.anchors
  pub spacing : IsInRange 500 2500 n.spacing

pub all_bounds : (e : Edition) (h I : ℕ) (n : SiteNumbers) → site_in_range e h I n ≡ true → AllBounds n
all_bounds e h I n t =
    let (concrete, rest) = and_parts (concrete_in_range e n) _ t in
    let (edges, others) = and_parts (edges_in_range n) _ rest in
    let (member, opening) = and_parts (member_in_range h n) _ others in
    let (edge, corners) = and_parts (between 250 5000 n.edge_distance) _ edges in
    let (left, right-and-factor) = and_parts (between 250 30000 n.left_corner) _ corners in
    let (right, factor) = and_parts (between 250 30000 n.right_corner) (edge_factor_known n.edge_factor) right-and-factor in
    let (anchors, spacing-and-inertia) = and_parts (between 2 12 n.anchors) _ opening in
    record {
      strength = strength_bounds e n.strength (and_parts (strength_known e n.strength) _ concrete).0;
      edge = bounds 250 5000 n.edge_distance edge;
      left = bounds 250 30000 n.left_corner left;
      right = bounds 250 30000 n.right_corner right;
      thickness = bounds 600 20000 n.thickness (and_parts (between 600 20000 n.thickness) _ member).0;
      known = factor;
      factor = factor_bounds n.edge_factor factor;
      anchors = bounds 2 12 n.anchors anchors;
      spacing = bounds 500 2500 n.spacing (and_parts (between 500 2500 n.spacing) _ spacing-and-inertia).0;
    }
