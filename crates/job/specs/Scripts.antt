-- The calls that the lines of a job make, after the site.
--   calls_of line     those of one line: none for a line that is refused; a rating closes, rates and reopens
--   script lines      those of all lines
use Rattle.std.specs.Prelude.{List, [], ◌∷◌, ◌++◌, Some, None, Option}
use Rattle.history.specs.declared.call.Call.{Call}
use Rattle.history.specs.declared.call.Call.TheVariants as call
use Rattle.job_text.specs.declared.line.JobLine.{JobLine}
use Rattle.job_text.specs.declared.line.JobLine.TheVariants.{Site, Place, Lift, Rate}

abbrev pub calls_of : Option JobLine → List Call
calls_of None = []
calls_of (Some (Site n)) = []
calls_of (Some (Place b)) = call.Place b ∷ []
calls_of (Some (Lift p)) = call.Lift p ∷ []
calls_of (Some Rate) = call.Close ∷ call.Rate ∷ call.Reopen ∷ []

abbrev pub script : List (Option JobLine) → List Call
script [] = []
script (l ∷ ls) = calls_of l ++ script ls
