-- The answers so far and those to come are the history, and there is room for all of them.
use Rattle.std.proofs.Common.{◌≡◌, ◌≤◌, ◌++◌, length, drop, vec_items, vec_len, vec_capacity}
use Rattle.history.specs.Histories.{standing, history}
use Rattle.history.proofs.calls.answer_calls.Given as goal

abbrev pub invariant-loop-call : goal.invariant-loop-call
invariant-loop-call g l =
    (vec_len l.answers ≡ l.call-index)
    × (length l.calls ≤ vec_capacity l.answers)
    × (vec_items l.answers ++ history (g.S.RatingSheet.lines l.sheet) (standing l.case) (drop l.call-index l.calls) ≡ history (g.S.RatingSheet.lines l.sheet) (standing l.initial.case) l.calls)
