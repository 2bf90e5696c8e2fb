use Rattle.std.proofs.Common.{◌≡◌, ◌+◌, ◌++◌, length, vec_items}
use Rattle.std.specs.Iterator.Adapters.{zip_first, zip_second}
use Rattle.std.specs.Slice.Iter.{iter_rest}
use Rattle.job.specs.Telling.{outcomes}
use Rattle.job.proofs.telling.outcomes_of.Given as goal

abbrev pub invariant-loop-number : goal.invariant-loop-number
invariant-loop-number l =
    (vec_items l.outcomes ++ outcomes (zip_first l.number-iterator).start (iter_rest (zip_second l.number-iterator)) l.left ≡ outcomes 2 l.lines l.answers)
    × ((zip_first l.number-iterator).start + length (iter_rest (zip_second l.number-iterator)) ≡ length l.lines + 2)
