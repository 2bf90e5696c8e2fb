-- What the figures of a row, and the rows of a sheet, come to as lists.
use Rattle.std.proofs.Common.{◌≡◌, ℕ, zero, suc, ◌≤◌, max, leb, List, length, get_or, take, refl, sym, ap, ◌∙◌, arith}
use Rattle.std.specs.List.{fold, list_all}
use Rattle.std.proofs.Math.Seq.{take-suc}
use Rattle.std.proofs.lemmas.List.{get_or-take, length-take-le}
use Rattle.std.proofs.lemmas.List.Sums.{fold-append}
use Rattle.failure.specs.Meanings.{Meaning}
use Rattle.verdict.specs.Checks.{all_below, line_within, none_over}
use Rattle.verdict.specs.Figures.{no_figures}
use Rattle.verdict.specs.Lines.{line_count, nth}
use Rattle.verdict.specs.Rows.{no_row, row_line, row_lines}
use Rattle.verdict.specs.Utilisations.{utilisation, largest_of, largest}
use Rattle.verdict.specs.declared.answer.Shown.{Shown}
use Rattle.verdict.specs.declared.row.Row.{Row}
use Rattle.verdict.proofs.Below.{below_same, all_listed}
use Rattle.verdict.proofs.Told.{nth_told}

abbrev pub higher : ℕ → Shown → ℕ
higher most s = max most s.utilisation

folded : (m : Meaning) (xs : List Shown) → ((i : ℕ) → (get_or xs i no_figures).utilisation ≡ utilisation m i) → (n : ℕ) → n ≤ length xs → fold higher 0 (take n xs) ≡ largest_of m n
folded m xs is zero h = refl
folded m xs is (suc n) h =
    ap (fold higher 0) (take-suc xs n no_figures (omega arith))
    ∙ fold-append higher 0 (take n xs) _
    ∙ ap (λ (v : ℕ). max v (get_or xs n no_figures).utilisation) (folded m xs is n (omega arith))
    ∙ ap (max (largest_of m n)) (is n)

module _ (r : Row) (few : r.count ≤ length r.figures) where
  pub largest_listed : fold higher 0 (take r.count r.figures) ≡ largest (row_line r)
  unfolding largest
  largest_listed = folded (row_line r) r.figures r.consistent r.count few

  pub within_listed : list_all (λ (s : Shown). leb s.utilisation 10000) (take r.count r.figures) ≡ line_within (row_line r)
  within_listed =
      let xs = take r.count r.figures in
      all_listed (λ (s : Shown). leb s.utilisation 10000) xs no_figures
      ∙ ap (λ (n : ℕ). all_below n (λ i. leb (get_or xs i no_figures).utilisation 10000)) (length-take-le r.count r.figures few)
      ∙ below_same r.count (λ i. leb (get_or xs i no_figures).utilisation 10000) (λ i. leb (utilisation (row_line r) i) 10000) (λ i h.
      ap (λ (s : Shown). leb s.utilisation 10000) (get_or-take r.count r.figures i no_figures h) ∙ ap (λ (v : ℕ). leb v 10000) (r.consistent i))

pub none_listed : (rs : List Row) → length rs ≡ line_count → list_all (λ r. line_within (row_line r)) rs ≡ none_over (row_lines rs)
unfolding none_over
none_listed rs long =
    all_listed (λ r. line_within (row_line r)) rs no_row
    ∙ ap (λ (n : ℕ). all_below n (λ k. line_within (row_line (get_or rs k no_row)))) long
    ∙ below_same line_count (λ k. line_within (row_line (get_or rs k no_row))) (λ k. line_within (nth (row_lines rs) k)) (λ k h. ap line_within (sym (nth_told rs k h)))
