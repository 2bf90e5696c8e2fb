use Rattle.std.proofs.Common.{◌-◌, ◌≤◌, mul-le-mul, arith}
use Rattle.steel_modes.proofs.flexure.moment.Spans.part.Goals as goal

pub overflow_mul-above-2 : goal.overflow_mul-above-2
overflow_mul-above-2 c =
    let load : c.mn.result ≤ 200000000 = omega arith in
    let near : c.min.result ≤ 250000 = omega arith in
    let rest : c.length-span.result - c.max.result ≤ 250000 = omega arith in
    omega (arith, mul-le-mul (mul-le-mul load near) rest)
