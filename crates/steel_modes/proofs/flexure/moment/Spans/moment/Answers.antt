use Rattle.std.proofs.Common.{ℕ, ◌≤◌, ap, rules, arith}
use Rattle.std.proofs.lemmas.List.{get_or_read}
use Rattle.std.proofs.lemmas.Iterator.{YieldsList-from_slice, YieldsList-from_map}
use Rattle.std.proofs.lemmas.Iterator.Adapters.{serves_from_places}
use Rattle.std.proofs.lemmas.Iterator.Consumers.{YieldsList-at, fits_by_from_yields_list}
use Rattle.bolts.specs.Bolts.{no_bolt}
use Rattle.bolts.specs.declared.bolt.Bolt.{Bolt}
use Rattle.steel_modes.specs.Spans.{part_up}
use Rattle.steel_modes.specs.SpanLemmas.{moment_le}
use Rattle.steel_modes.proofs.flexure.moment.Spans.moment.Goals as goal

pub sum-requires-clause-can : goal.sum-requires-clause-can
sum-requires-clause-can c =
    let bolts = c.args.bolts.now in (
      tt,
      serves_from_places (YieldsList-from_slice bolts cc) (λ x q k. search rules) (λ x k h e.
          let same = ap (λ (b : Bolt). b.tension) (get_or_read bolts k x.now h e no_bolt) in
          let fits : x.now.tension ≤ 200000 = omega (arith, same, c.requires.loaded k h) in
          search rules),
    )

pub sum-requires-clause-fits : goal.sum-requires-clause-fits
sum-requires-clause-fits c =
    let s = c.args.self in
    let bolts = c.args.bolts.now in
    let f : Bolt → ℕ = part_up s.spacing c.args.here in
    let fits = moment_le s.spacing s.wide s.narrow c.args.here bolts c.requires.few c.requires.loaded in
    fits_by_from_yields_list f bolts c.map.result _ (YieldsList-from_map _ f (YieldsList-at c.map.ensures.source (YieldsList-from_slice bolts cc)) c.map.ensures.closure (λ x r q k. search rules)) (omega (arith, fits))
