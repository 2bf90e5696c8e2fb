use Rattle.std.proofs.Common.{◌≡◌, false, vec_items, ap}
use Rattle.history.specs.declared.any_case.AnyCase.TheVariants.{Open}
use Rattle.history.specs.Histories.{Standing, standing, start, history}
use Rattle.history.proofs.Steps.{history_all}
use Rattle.history.proofs.Keeping.{kept}
use Rattle.history.proofs.calls.answer_calls.Goals as goal

pub returns : goal.returns
returns g c =
    let lines = g.S.RatingSheet.lines c.args.sheet.now in
    let opened = c.in_ok-open.ensures in
    let first : Standing = standing (Open c.in_ok-open.field-0) in
    let all = history_all lines (standing c.loop-call.case) c.args.calls.now c.loop-call.call-index (vec_items c.loop-call.answers) (history lines first c.args.calls.now) c.loop-call-test.false c.loop-call.invariant.2 in
    let began : first ≡ start c.args.opening = ap (λ k. record { case = k; closed = false }) opened.1 in
    (opened.0, kept lines (g.met.S.RatingSheet.lawful c.args.sheet.now) c.args.opening c.args.calls.now first (vec_items c.loop-call.answers) opened.0 began all)
