use Rattle.std.proofs.Common.{arith}
use Rattle.concrete_modes.specs.Sizes.{cubed_most}
use Rattle.concrete_modes.proofs.edge.first.FirstEdge.square.Goals as goal

pub overflow_mul-result-5 : goal.overflow_mul-result-5
overflow_mul-result-5 c =
    let m = c.args.self.now in
    grind (arith, cubed_most m.basis m.ranged)

pub overflow_mul-result-6 : goal.overflow_mul-result-6
overflow_mul-result-6 c =
    let m = c.args.self.now in
    grind (arith, cubed_most m.basis m.ranged)
