use Rattle.std.proofs.Common.{arith}
use Rattle.concrete_modes.specs.Squares.{product_most, square_most}
use Rattle.concrete_modes.proofs.cone.Cone.square.Goals as goal

pub overflow_mul-result-5 : goal.overflow_mul-result-5
overflow_mul-result-5 c =
    let m = c.args.self.now in
    grind (arith, product_most m.basis m.ranged)

pub overflow_mul-result-7 : goal.overflow_mul-result-7
overflow_mul-result-7 c =
    let m = c.args.self.now in
    grind (arith, square_most m.basis m.ranged)
