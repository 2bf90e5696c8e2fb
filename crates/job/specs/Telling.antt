-- From the answers to the calls of a job's lines to the outcomes. Lines count from 1.
--   answer_at gs k        the k-th answer, from 0
--   told n a              what an answer tells: a verdict, a refusal of the line n, or nothing
--   outcome n line gs     the outcome of the line n, where gs begins with the answers to its calls
--   outcomes n ls gs      the outcomes of the lines from the n-th on
use Rattle.std.specs.Prelude.{ℕ, ◌+◌, List, [], ◌∷◌, ◌++◌, length, drop, Some, None, Option, slice_index_or}
use Rattle.history.specs.declared.call.Answer.{Answer}
use Rattle.history.specs.declared.call.Answer.TheVariants as answer
use Rattle.job_text.specs.declared.line.JobLine.{JobLine}
use Rattle.job_text.specs.declared.line.JobLine.TheVariants.{Site, Place, Lift, Rate}
use Rattle.job.specs.Scripts.{calls_of}
use Rattle.job.specs.declared.fault.JobRefusal.TheVariants.{Case, Line}
use Rattle.job.specs.declared.outcome.Outcome.{Outcome}
use Rattle.job.specs.declared.outcome.Outcome.TheVariants.{Rated, Refused}

abbrev pub answer_at : List Answer → ℕ → Answer
answer_at gs k = slice_index_or gs k answer.Done

abbrev pub told : ℕ → Answer → List Outcome
told n answer.Done = []
told n (answer.Refused e) = Refused (Case e n) ∷ []
told n (answer.Shown f) = []
told n (answer.Rated v) = Rated v ∷ []
told n answer.OutOfTurn = []

abbrev pub outcome : ℕ → Option JobLine → List Answer → List Outcome
outcome n None gs = Refused (Line n) ∷ []
outcome n (Some (Site s)) gs = Refused (Line n) ∷ []
outcome n (Some (Place b)) gs = told n (answer_at gs 0)
outcome n (Some (Lift p)) gs = told n (answer_at gs 0)
outcome n (Some Rate) gs = told n (answer_at gs 1)

abbrev pub outcomes : ℕ → List (Option JobLine) → List Answer → List Outcome
outcomes n [] gs = []
outcomes n (l ∷ ls) gs = outcome n l gs ++ outcomes (n + 1) ls (drop (length (calls_of l)) gs)
