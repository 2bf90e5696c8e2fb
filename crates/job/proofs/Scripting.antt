-- Lists that are made line by line.
use Rattle.std.proofs.Common.{◌≡◌, ℕ, ◌+◌, List, [], ◌∷◌, ◌++◌, length, drop, Option, sym, ap, ◌∙◌, arith}
use Rattle.std.proofs.lemmas.List.{append_assoc, append-nil}
use Rattle.job_text.specs.declared.line.JobLine.{JobLine}
use Rattle.history.specs.declared.call.Answer.{Answer}
use Rattle.job.specs.Scripts.{calls_of}
use Rattle.job.specs.Telling.{outcome, outcomes}
use Rattle.job.specs.declared.outcome.Outcome.{Outcome}

-- the outcomes so far and those of the lines left are all outcomes; with one line more they are
pub told_more : (ls ms : List (Option JobLine)) (l : Option JobLine) (k n m : ℕ) (os qs all : List Outcome) (gs hs : List Answer) → ls ≡ l ∷ ms → n ≡ k → m ≡ n + 1 → qs ≡ os ++ outcome n l gs → hs ≡ drop (length (calls_of l)) gs → os ++ outcomes k ls gs ≡ all → qs ++ outcomes m ms hs ≡ all
told_more ls ms l k n m os qs all gs hs cut same next is rest inv =
    rw (is, rest, next)
    (append_assoc os (outcome n l gs) (outcomes (n + 1) ms (drop (length (calls_of l)) gs))
    ∙ ap (λ xs. os ++ outcomes n xs gs) (sym cut)
    ∙ ap (λ i. os ++ outcomes i ls gs) same
    ∙ inv)

-- with no line left they are all
pub told_all : (ls : List (Option JobLine)) (n : ℕ) (os all : List Outcome) (gs : List Answer) → length ls ≡ 0 → os ++ outcomes n ls gs ≡ all → os ≡ all
told_all [] n os all gs none inv = sym (append-nil os) ∙ inv
told_all (l ∷ ls) n os all gs none inv = absurd (omega (arith, none))
