-- The places of a mode in a case.
--   on_bolts c, on_anchors c   all bolts; all anchors
--   nowhere                    none: the mode does not apply
use Rattle.std.specs.Prelude.{length}
use Rattle.forces.specs.Cases.{Case}
use Rattle.failure.specs.declared.places.Places.{Places}
use Rattle.failure.specs.declared.places.PlaceKind.TheVariants.{Bolts, Anchors, Nothing}

abbrev pub on_bolts : Case → Places
on_bolts c = record { kind = Bolts; count = length c.bolts }

abbrev pub on_anchors : Case → Places
on_anchors c = record { kind = Anchors; count = c.opening.anchors }

abbrev pub nowhere : Places
nowhere = record { kind = Nothing; count = 0 }
