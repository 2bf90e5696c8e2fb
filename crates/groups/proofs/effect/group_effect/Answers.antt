use Rattle.std.proofs.Common.{◌≡◌, arith}
use Rattle.std.proofs.lemmas.Grind.{common_steps}
use Rattle.loadcase.specs.Closed.{closed_case}
use Rattle.loadcase.proofs.Validity.{valid_of}
use Rattle.groups.specs.Groups.{group_effect}
use Rattle.groups.proofs.Effects.{effect_covers, effect_near}
use Rattle.groups.proofs.effect.group_effect.Goals as goal
use Rattle.groups.proofs.effect.group_effect.Goals.{After-effect}

is : (c : goal.After-effect) → c.effect.result ≡ group_effect c.args.spacing.um (closed_case c.args.case.now) c.args.direction c.args.k
is c = grind (arith, common_steps)

pub returns-clause-never_below : goal.returns-clause-never_below
returns-clause-never_below c =
    rw (is c) (effect_covers _ c.args.spacing.some (closed_case c.args.case.now) c.args.direction c.args.k (valid_of c.args.case.now.within))

pub returns-clause-hardly_above : goal.returns-clause-hardly_above
returns-clause-hardly_above c =
    rw (is c) (effect_near _ c.args.spacing.some (closed_case c.args.case.now) c.args.direction c.args.k (valid_of c.args.case.now.within))
