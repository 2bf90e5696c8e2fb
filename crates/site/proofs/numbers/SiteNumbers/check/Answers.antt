use Rattle.std.proofs.Common.{sym, ◌∙◌}
use Rattle.site.proofs.Bounds.{all_bounds}
use Rattle.site.proofs.numbers.SiteNumbers.check.Goals as goal

pub invariant_of-result : goal.invariant_of-result
invariant_of-result c =
    let b = all_bounds c.args.edition c.args.embedment_depth c.args.moment_of_inertia c.args.self (sym c.is_in_range.ensures ∙ c.if-not-is_in_range.false) in
    record {
      strength_range = b.strength;
      edge_range = b.edge;
      left_range = b.left;
      right_range = b.right;
      thickness_range = b.thickness;
      known_factor = b.known;
      factor_range = b.factor;
      anchors_range = b.anchors;
      spacing_range = b.spacing;
    }
