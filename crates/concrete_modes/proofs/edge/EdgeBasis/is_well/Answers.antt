use Rattle.std.proofs.Common.{arith}
use Rattle.std.proofs.lemmas.Bool.Decides.{nat_tests}
use Rattle.concrete_modes.proofs.edge.EdgeBasis.is_well.Goals as goal

pub returns-then-contains-4 : goal.returns-then-contains-4
returns-then-contains-4 c = grind (arith, nat_tests)

pub returns-else-contains-4 : goal.returns-else-contains-4
returns-else-contains-4 c = grind (arith, nat_tests)
