use Rattle.std.proofs.Common.{sym, ◌∙◌, arith}
use Rattle.loadcase.specs.Closed.{closed_case}
use Rattle.loadcase.proofs.Validity.{valid_of}
use Rattle.failure.proofs.AtPlaces.{found_at}
use Rattle.failure.proofs.mode.bounded_resistance.Goals as goal

pub returns-clause-few : goal.returns-clause-few
returns-clause-few g c =
    let m = g.M.FailureMode.meaning c.args.mode.now (closed_case c.args.case.now) in
    let found = found_at m.places.count c.args.place m.resistance _ (sym c.resistance.ensures ∙ c.in_ok-mn.was) in
    let few = g.met.M.FailureMode.few c.args.mode.now _ (valid_of c.args.case.now.within) in
    omega arith

pub invariant_of-result : goal.invariant_of-result
invariant_of-result g c =
    let m = g.M.FailureMode.meaning c.args.mode.now (closed_case c.args.case.now) in
    let found = found_at m.places.count c.args.place m.resistance _ (sym c.resistance.ensures ∙ c.in_ok-mn.was) in
    let law = g.met.M.FailureMode.lawful c.args.mode.now _ (valid_of c.args.case.now.within) c.args.place found.0 in
    record { fits = omega arith }
