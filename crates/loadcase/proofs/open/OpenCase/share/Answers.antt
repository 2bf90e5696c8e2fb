use Rattle.std.proofs.Common.{◌≤◌, mul-le-mul, arith, rules}
use Rattle.loadcase.proofs.Validity.{load_of_held, spread_pos}
use Rattle.loadcase.proofs.open.OpenCase.share.Goals as goal

pub overflow_mul-moment : goal.overflow_mul-moment
overflow_mul-moment c =
    let load : c.mn.result ≤ 200000000 = omega (arith, load_of_held c.args.self.now c.args.bolt c.requires c.args.direction, c.load.ensures) in
    let arm : c.left-arm.result ≤ 1000005 = omega arith in
    omega (arith, mul-le-mul load arm)

pub invariant_of-spread : goal.invariant_of-spread
invariant_of-spread c = let some = spread_pos c.args.self.now c.args.bolt c.requires in search rules
