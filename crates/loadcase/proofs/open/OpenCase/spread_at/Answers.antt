use Rattle.std.proofs.Common.{ℕ, ◌-◌, ◌*◌, ◌^◌, ◌<◌, sum_by, ◌∙◌, rules, arith}
use Rattle.std.specs.List.{range_with_len}
use Rattle.std.proofs.lemmas.Iterator.{YieldsList-from_map, YieldsList-from_range}
use Rattle.std.proofs.lemmas.Iterator.Consumers.{sum_by_from_yields_List, fits_by_from_yields_list}
use Rattle.forces.specs.Shares.{gap}
use Rattle.forces.specs.Cases.{um}
use Rattle.forces.proofs.Spreads.{spread_most}
use Rattle.forces.proofs.Sums.{spread_sum}
use Rattle.loadcase.specs.declared.open.OpenCase.{OpenCase}
use Rattle.loadcase.proofs.open.OpenCase.spread_at.Goals as goal

-- what is left of the length past the distance to the k-th anchor
abbrev left : OpenCase → ℕ → ℕ → ℕ
left x place k = x.length - gap place (k * um x.channel.spacing)

pub sum-requires-clause-fits : goal.sum-requires-clause-fits
sum-requires-clause-fits c =
    let x = c.args.self.now in
    let h = left x c.args.place in
    let small : sum_by h (range_with_len 0 x.anchors) < 2 ^ 64 =
    omega (arith, spread_sum x.length x.anchors (um x.channel.spacing) c.args.place, spread_most 1000000 x.length x.anchors (um x.channel.spacing) c.args.place x.short) in
    fits_by_from_yields_list h (range_with_len 0 x.anchors) c.map.result _
    (YieldsList-from_map _ h (YieldsList-from_range 0 x.anchors x.anchors (cc) (omega arith)) c.map.ensures.closure (λ k r q e. search rules)) small

pub returns : goal.returns
returns c =
    let x = c.args.self.now in
    let h = left x c.args.place in
    sum_by_from_yields_List h (range_with_len 0 x.anchors) c.map.result _ c.sum.ensures.ran
    (YieldsList-from_map _ h (YieldsList-from_range 0 x.anchors x.anchors (cc) (omega arith)) c.map.ensures.closure (λ k r q e. search rules))
    ∙ spread_sum x.length x.anchors (um x.channel.spacing) c.args.place
