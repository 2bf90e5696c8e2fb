use Rattle.std.proofs.Common.{◌-◌, ◌^◌, ◌<◌, ◌≤◌}
use Rattle.roots.proofs.bisection.root.Given as goal

abbrev pub invariant-loop-high : goal.invariant-loop-high
invariant-loop-high g l =
    (g.P.Power.power l.power l.low ≤ l.x) × (l.x < g.P.Power.power l.power l.high) × (l.low < l.high) × (l.high ≤ 2 ^ g.P.Power.BITS)

abbrev pub decreases-loop-high : goal.decreases-loop-high
decreases-loop-high g l = l.high - l.low
