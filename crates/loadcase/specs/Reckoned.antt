-- The forces that are reckoned for a case.
--   force_in d f      the force in a direction, of those on an anchor
--   Reckoned c fs     the list is of the forces on the case's anchors
use Rattle.std.specs.Prelude.{◌≡◌, ℕ, ◌<◌, List, length, slice_index_or}
use Rattle.bolts.specs.declared.bolt.Direction.{Direction}
use Rattle.bolts.specs.declared.bolt.Direction.TheVariants.{Tension, Shear}
use Rattle.forces.specs.Cases.{Case}
use Rattle.forces.specs.Exact.{force}
use Rattle.loadcase.specs.declared.anchor.AnchorForces.{AnchorForces}

abbrev pub force_in : Direction → AnchorForces → ℕ
force_in Tension f = f.tension
force_in Shear f = f.shear

-- what stands past the end of a list
abbrev pub no_forces : AnchorForces
no_forces = record { tension = 0; shear = 0 }

abbrev pub Reckoned : Case → List AnchorForces → Type 0
Reckoned c fs =
    (length fs ≡ c.opening.anchors)
    × ((k : ℕ) → k < c.opening.anchors → slice_index_or fs k no_forces ≡ record { tension = force c Tension k; shear = force c Shear k })
