use Rattle.std.proofs.Common.{◌^◌, ◌<◌, ◌≤◌, le_trans, rules, arith}
use Rattle.roots.specs.Extremes.{Greatest}
use Rattle.roots.proofs.Extremes.{greatest_by, greatest_one, greatest_of_is}
use Rattle.roots.proofs.bisection.root.Goals as goal

pub returns : goal.returns
returns g c =
    let x = c.args.x in
    let power = g.P.Power.power c.args.power.now in
    let met = g.met.P.Power in
    let starts : power 0 ≤ x = omega (arith, met.starts c.args.power.now) in
    let ends : x < power (2 ^ g.P.Power.BITS) = omega (arith, met.ends c.args.power.now) in
    let is : Greatest (λ n. power n ≤ x) c.loop-high.low =
    greatest_by (λ n. power n ≤ x) c.loop-high.low (λ m n h f. le_trans (met.rises c.args.power.now m n h) f) (search rules) (search rules) in
    record {
      is = is;
      value = greatest_one _ _ _ is (greatest_of_is g.P.Power.BITS x power (met.rises c.args.power.now) starts ends);
      within = search rules;
    }
