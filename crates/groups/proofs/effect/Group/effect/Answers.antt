use Rattle.std.proofs.Common.{ℕ, arith, rules}
use Rattle.std.specs.List.{range_with_len}
use Rattle.std.proofs.lemmas.Iterator.{YieldsList-from_map, YieldsList-from_range}
use Rattle.std.proofs.lemmas.Iterator.Consumers.{fits_by_from_yields_list}
use Rattle.loadcase.specs.Closed.{closed_case}
use Rattle.loadcase.proofs.Validity.{valid_of}
use Rattle.groups.specs.Groups.{part}
use Rattle.groups.proofs.Effects.{effect_small}
use Rattle.groups.proofs.effect.Group.effect.Goals as goal

pub sum-requires-clause-fits : goal.sum-requires-clause-fits
sum-requires-clause-fits c =
    let x = c.args.self.now in
    let case = closed_case x.case.now in
    let n : ℕ = case.opening.anchors in
    let parts = part x.spacing.um case x.direction x.anchor in
    fits_by_from_yields_list parts (range_with_len 0 n) c.map.result _
    (YieldsList-from_map _ parts (YieldsList-from_range 0 n n (cc) (omega arith)) c.map.ensures.closure (λ j r q e. search rules))
    (effect_small x.spacing.um x.spacing.some case x.direction x.anchor (valid_of x.case.now.within))
