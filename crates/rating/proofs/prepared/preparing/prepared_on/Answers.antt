use Rattle.std.proofs.Common.{arith}
use Rattle.std.proofs.lemmas.Bool.Decides.{nat_tests}
use Rattle.rating.proofs.prepared.preparing.prepared_on.Goals as goal

pub invariant_of-result : goal.invariant_of-result
invariant_of-result c =
    let stiff = c.geometry-geometry.ensures.lawful.inertia in
    record { fits = grind (arith, nat_tests) }
