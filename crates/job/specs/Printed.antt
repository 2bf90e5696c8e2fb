-- The printed form of an outcome: a word and numbers, with single spaces between, and a line feed.
--   place_or_none g    the governing place, all 0 where no line has a place
--   check_or_none f    the number of the failed check, or 0
--   verdict_words v    `accepted` or `rejected`, the largest utilisation, its line and place, the first failed check or 0
--   refusal_words r    `refused`, the number of the question, and the byte or the line
--   outcome_words o    one or the other
--   verdict_text v, refusal_text r, outcome_text o     the same with the line feed
use Rattle.std.specs.Prelude.{ℕ, Bool, cond, List, [], ◌∷◌, ◌++◌, Some, None, Option, codes, decimal}
use Rattle.verdict.specs.Numbers as checks
use Rattle.verdict.specs.declared.answer.CombinedCheck.{CombinedCheck}
use Rattle.verdict.specs.declared.answer.Governing.{Governing}
use Rattle.verdict.specs.declared.answer.Verdict.{Verdict}
use Rattle.job.specs.Refusals.{number, place}
use Rattle.job.specs.declared.fault.JobRefusal.{JobRefusal}
use Rattle.job.specs.declared.outcome.Outcome.{Outcome}
use Rattle.job.specs.declared.outcome.Outcome.TheVariants.{Rated, Refused}

abbrev pub word : Bool → List ℕ
word accepted = cond accepted (codes "accepted") (codes "rejected")

abbrev pub place_or_none : Option Governing → Governing
place_or_none None = record { utilisation = 0; line = 0; place = 0 }
place_or_none (Some g) = g

abbrev pub check_or_none : Option CombinedCheck → ℕ
check_or_none None = 0
check_or_none (Some c) = checks.number c

abbrev pub verdict_words : Verdict → List ℕ
verdict_words v =
    word v.accepted
    ++ (32 ∷ (decimal (place_or_none v.governing).utilisation
    ++ (32 ∷ (decimal (place_or_none v.governing).line ++ (32 ∷ (decimal (place_or_none v.governing).place ++ (32 ∷ decimal (check_or_none v.failed_check))))))))

abbrev pub refusal_words : JobRefusal → List ℕ
refusal_words r = codes "refused" ++ (32 ∷ (decimal (number r) ++ (32 ∷ decimal (place r))))

abbrev pub outcome_words : Outcome → List ℕ
outcome_words (Rated v) = verdict_words v
outcome_words (Refused r) = refusal_words r

abbrev pub line_feed : List ℕ
line_feed = 10 ∷ []

abbrev pub verdict_text : Verdict → List ℕ
verdict_text v = verdict_words v ++ line_feed

abbrev pub refusal_text : JobRefusal → List ℕ
refusal_text r = refusal_words r ++ line_feed

abbrev pub outcome_text : Outcome → List ℕ
outcome_text (Rated v) = verdict_text v
outcome_text (Refused r) = refusal_text r
