-- The case that was closed.
use Rattle.forces.specs.Cases.{Case}
use Rattle.loadcase.specs.Held.{case_of}
use Rattle.loadcase.specs.declared.closed.ClosedCase.{ClosedCase}

abbrev pub closed_case : ClosedCase → Case
closed_case c = case_of c.within
