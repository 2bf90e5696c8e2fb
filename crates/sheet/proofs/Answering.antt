-- From what the lines tell to the answers of a sheet.
use Rattle.std.proofs.Common.{◌≡◌, ℕ, zero, suc, ◌+◌, ◌-◌, ◌<◌, ◌≤◌, true, false, leb, List, get_or, Ok, Err, Result, sym, refl, ap, ◌∙◌, inl, inr, arith}
use Rattle.std.proofs.lemmas.Bool.{cases_lt, le-leb, lt-leb}
use Rattle.bolts.specs.declared.refusal.Refusal.{Refusal}
use Rattle.bolts.specs.declared.refusal.Refusal.TheVariants.{NoPlace, Allowance}
use Rattle.failure.specs.Meanings.{Meaning}
use Rattle.verdict.specs.Lines.{line_count, nth, line}
use Rattle.verdict.specs.Checks.{all_below}
use Rattle.verdict.specs.Rows.{no_row, RowOf, row_lines}
use Rattle.verdict.specs.Answers.{all_accurate, verdict, show_answer, rate_answer}
use Rattle.verdict.specs.declared.answer.Shown.{Shown}
use Rattle.verdict.specs.declared.answer.Verdict.{Verdict}
use Rattle.verdict.specs.declared.row.Row.{Row}
use Rattle.verdict.proofs.Below.{below_same}
use Rattle.verdict.proofs.SameLines.{verdict_told}
use Rattle.sheet.specs.Each.{OfEach, size, each_nth}
use Rattle.sheet.specs.LineAnswers.{line_answer}

-- a line of the thirteen answers for itself
of_line : (ms : List Meaning) (l p : ℕ) → 1 ≤ l → l ≤ line_count → show_answer ms l p ≡ line_answer (line ms l) p
of_line ms l p low high =
    let a = le-leb 1 l low in
    let b = le-leb l line_count high in
    rw (a, b) refl

past_lines : (ms : List Meaning) (l p : ℕ) → line_count < l → show_answer ms l p ≡ Err NoPlace
past_lines ms l p past =
    let a = le-leb 1 l (omega arith) in
    let b = lt-leb l line_count past in
    rw (a, b) refl

pub showing : {ms : List Meaning} (l p : ℕ) (r : Result Shown Refusal) → (l ≡ 0 → r ≡ Err NoPlace) → (13 < l → r ≡ Err NoPlace) → size ms ≡ 13 → OfEach (λ k m. l ≡ k + 1 → r ≡ line_answer m p) ms → r ≡ show_answer ms l p
showing {ms} zero p r outside past long inside = outside refl
showing {ms} (suc k) p r outside past long inside =
    elim (cases_lt k 13) [
      | inl h ↦
          let e : k ≡ suc k - 1 = omega arith in
          each_nth (λ j m. suc k ≡ j + 1 → r ≡ line_answer m p) ms inside.each k (omega arith) (omega arith)
          ∙ ap (λ (v : ℕ). line_answer (nth ms v) p) e
          ∙ sym (of_line ms (suc k) p (omega arith) (omega arith))
      | inr h ↦ past (omega arith) ∙ sym (past_lines ms (suc k) p (omega arith))
    ]

-- the allowances of the lines
module _ {ms : List Meaning} (xs : List ℕ) (long : size ms ≡ 13) (are : OfEach (λ k m. get_or xs k 0 ≡ m.allowance) ms) where
  same_accurate : all_below line_count (λ k. leb (get_or xs k 0) 600) ≡ all_accurate ms
  unfolding all_accurate
  same_accurate =
      below_same line_count (λ k. leb (get_or xs k 0) 600) (λ k. leb (nth ms k).allowance 600) (λ k h. ap (λ (v : ℕ). leb v 600) (each_nth (λ j m. get_or xs j 0 ≡ m.allowance) ms are.each k (omega arith)))

  pub refusing : false ≡ all_below line_count (λ k. leb (get_or xs k 0) 600) → Err Allowance ≡ rate_answer ms
  refusing e = let f : all_accurate ms ≡ false = sym (e ∙ same_accurate) in rw f refl

  pub rating : true ≡ all_below line_count (λ k. leb (get_or xs k 0) 600) → (rs : List Row) → OfEach (λ k m. RowOf m (get_or rs k no_row)) ms → (v : Verdict) → v ≡ verdict (row_lines rs) → Ok v ≡ rate_answer ms
  rating e rs rows v is =
      let f : all_accurate ms ≡ true = sym (e ∙ same_accurate) in
      let told = verdict_told ms rs (λ k h. each_nth (λ j m. RowOf m (get_or rs j no_row)) ms rows.each k (omega arith)) in
      let g : v ≡ verdict ms = is ∙ sym told in
      rw f (ap Ok g)
