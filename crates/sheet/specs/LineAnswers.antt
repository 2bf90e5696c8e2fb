-- What is asked of one line.
--   line_answer m p        the figures of the line m at its place p, from 1, or the first question answered no
use Rattle.std.specs.Prelude.{ℕ, ◌-◌, ◌&&◌, [], ◌∷◌, Result, nat_le}
use Rattle.bolts.specs.Asked.{first_no}
use Rattle.bolts.specs.declared.refusal.Refusal.{Refusal}
use Rattle.bolts.specs.declared.refusal.Refusal.TheVariants.{NoPlace, Allowance}
use Rattle.failure.specs.Meanings.{Meaning}
use Rattle.verdict.specs.Answers.{accurate, granted}
use Rattle.verdict.specs.Figures.{figures_of}
use Rattle.verdict.specs.declared.answer.Shown.{Shown}

abbrev pub line_answer : Meaning → ℕ → Result Shown Refusal
line_answer m p =
    granted (first_no ((nat_le 1 p && nat_le p m.places.count, NoPlace) ∷ (accurate m, Allowance) ∷ [])) (figures_of m (p - 1))
