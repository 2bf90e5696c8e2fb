-- What a case of the code is, as a reader sees it.
--   opening_of c     the numbers that it was opened with
--   bolts_of c       its bolts, in rising position
--   case_of c        both
use Rattle.std.specs.Prelude.{List}
use Rattle.bolts.specs.Tables.{held}
use Rattle.bolts.specs.declared.bolt.Bolt.{Bolt}
use Rattle.forces.specs.Cases.{Case}
use Rattle.forces.specs.declared.opening.Opening.{Opening}
use Rattle.loadcase.specs.declared.open.OpenCase.{OpenCase}

abbrev pub opening_of : OpenCase → Opening
opening_of c = record { anchors = c.anchors; spacing = c.channel.spacing; inertia = c.channel.inertia }

abbrev pub bolts_of : OpenCase → List Bolt
bolts_of c = held c.table

abbrev pub case_of : OpenCase → Case
case_of c = record { opening = opening_of c; bolts = bolts_of c }
