use Rattle.std.proofs.Common.{sym, rules}
use Rattle.std.specs.List.{Contains}
use Rattle.std.proofs.lemmas.Iterator.{YieldsList-from_slice}
use Rattle.std.proofs.lemmas.Iterator.Adapters.{serves_from_places}
use Rattle.forces.proofs.Exactness.{bounded}
use Rattle.loadcase.specs.Held.{case_of, bolts_of}
use Rattle.loadcase.proofs.Validity.{valid_of}
use Rattle.loadcase.proofs.open.OpenCase.force.Goals as goal

pub sum-requires-clause-can : goal.sum-requires-clause-can
sum-requires-clause-can c = (
  tt,
  serves_from_places (YieldsList-from_slice (bolts_of c.args.self.now) (cc)) (λ b q r. search rules) (λ b k h e.
      let held : Contains (bolts_of c.args.self.now) b.now = (k, h, sym e) in
      search rules),
)

pub sum-requires-clause-fits : goal.sum-requires-clause-fits
sum-requires-clause-fits c =
    let x = c.args.self.now in
    let small = (bounded (case_of x) c.args.direction (valid_of x)).each c.args.k c.requires in
    search rules
