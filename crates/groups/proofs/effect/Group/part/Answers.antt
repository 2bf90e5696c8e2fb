use Rattle.std.proofs.Common.{◌≤◌, mul-le-mul, arith}
use Rattle.std.proofs.lemmas.Grind.{common_steps}
use Rattle.groups.proofs.Weights.{weight_on_small}
use Rattle.loadcase.specs.Closed.{closed_case}
use Rattle.groups.proofs.effect.Group.part.Goals as goal

pub overflow_mul-weighted : goal.overflow_mul-weighted
overflow_mul-weighted c =
    let x = c.args.self.now in
    let weight : c.weight.result ≤ 1000000 = omega (arith, c.weight.ensures, weight_on_small x.spacing.um x.spacing.some (closed_case x.case.now).opening x.anchor c.args.j) in
    let all = c.force.ensures.bounded.each c.args.j c.requires in
    let force : c.unwrap-force.result ≤ 4000000000 = grind (arith, common_steps) in
    omega (arith, mul-le-mul weight force)
