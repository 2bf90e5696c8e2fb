-- What is shown of a line and place, and the verdict on a closed case, over the meanings of the thirteen lines.
--   has ms l p            there is such a line and such a place on it, both from 1
--   accurate m            the line's allowance is at most 600 millionths
--   shown ms l p          its effect, resistance and utilisation
--   verdict ms            accepted exactly where no utilisation passes 10,000 and every combined check holds
--   show_answer ms l p, rate_answer ms   the figures, or the first question answered no
use Rattle.std.specs.Prelude.{ℕ, ◌-◌, Bool, ◌&&◌, List, [], ◌∷◌, Ok, Err, Result, is_none, nat_le}
use Rattle.bolts.specs.Asked.{first_no}
use Rattle.bolts.specs.declared.refusal.Refusal.{Refusal}
use Rattle.bolts.specs.declared.refusal.Refusal.TheVariants.{NoPlace, Allowance}
use Rattle.failure.specs.Meanings.{Meaning}
use Rattle.verdict.specs.Lines.{line_count, nth, line}
use Rattle.verdict.specs.Utilisations.{utilisation}
use Rattle.verdict.specs.Checks.{all_below, failed_check, none_over}
use Rattle.verdict.specs.Governing.{governing}
use Rattle.verdict.specs.declared.answer.Shown.{Shown}
use Rattle.verdict.specs.declared.answer.Verdict.{Verdict}

abbrev pub has : List Meaning → ℕ → ℕ → Bool
has ms l p = nat_le 1 l && (nat_le l line_count && (nat_le 1 p && nat_le p (line ms l).places.count))

abbrev pub accurate : Meaning → Bool
accurate m = nat_le m.allowance 600

unfoldable pub all_accurate : List Meaning → Bool
all_accurate ms = all_below line_count (λ k. accurate (nth ms k))

abbrev pub shown : List Meaning → ℕ → ℕ → Shown
shown ms l p = record {
  effect = (line ms l).effect (p - 1);
  resistance = (line ms l).resistance (p - 1);
  utilisation = utilisation (line ms l) (p - 1);
}

abbrev pub verdict : List Meaning → Verdict
verdict ms = record {
  accepted = none_over ms && is_none (failed_check ms);
  governing = governing ms;
  failed_check = failed_check ms;
}

-- the value where every question was answered yes
abbrev pub granted : {A : Type 0} → Result Unit Refusal → A → Result A Refusal
granted (Ok x) a = Ok a
granted (Err e) a = Err e

abbrev pub show_answer : List Meaning → ℕ → ℕ → Result Shown Refusal
show_answer ms l p = granted (first_no ((has ms l p, NoPlace) ∷ (accurate (line ms l), Allowance) ∷ [])) (shown ms l p)

abbrev pub rate_answer : List Meaning → Result Verdict Refusal
rate_answer ms = granted (first_no ((all_accurate ms, Allowance) ∷ [])) (verdict ms)
