use Rattle.std.proofs.Common.{◌≡◌, rules}
use Rattle.bolts.specs.Bolts.{bolt_at}
use Rattle.loadcase.specs.Closed.{closed_case}
use Rattle.steel_modes.specs.Spans.{moment_at}
use Rattle.steel_modes.proofs.flexure.moment.moment.Goals as goal

pub returns : goal.returns
returns c =
    let case = closed_case c.args.case.now in
    let here : c.in_ok-here.here.now ≡ bolt_at case.bolts c.args.place = search rules in
    let value : c.moment.result ≡ moment_at case c.args.place = cc in
    search rules
