use Rattle.std.proofs.Common.{◌≡◌, ℕ, ◌<◌, length, get_or}
use Rattle.bolts.specs.declared.bolt.Direction.TheVariants.{Tension, Shear}
use Rattle.forces.specs.Exact.{force}
use Rattle.loadcase.specs.Held.{case_of}
use Rattle.loadcase.specs.Reckoned.{no_forces}
use Rattle.loadcase.proofs.open.OpenCase.forces.Given as goal

abbrev pub invariant-loop-k : goal.invariant-loop-k
invariant-loop-k l =
    (length l.all.items ≡ l.k) × ((j : ℕ) → j < l.k → get_or l.all.items j no_forces ≡ record { tension = force (case_of l.self) Tension j; shear = force (case_of l.self) Shear j })
