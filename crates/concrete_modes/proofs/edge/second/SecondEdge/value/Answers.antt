use Rattle.std.proofs.Common.{arith}
use Rattle.concrete_modes.specs.Sizes.{four_most}
use Rattle.concrete_modes.proofs.edge.second.SecondEdge.value.Goals as goal

pub overflow_mul-result-3 : goal.overflow_mul-result-3
overflow_mul-result-3 c =
    let m = c.args.self.now in
    grind (arith, four_most m.basis m.ranged _ _ c.strength_root-g.ensures.small c.distance_root-t.ensures.small)

pub returns-clause-small : goal.returns-clause-small
returns-clause-small c =
    let m = c.args.self.now in
    grind (arith, four_most m.basis m.ranged _ _ c.strength_root-g.ensures.small c.distance_root-t.ensures.small)
