-- The lines that rows tell.
use Rattle.std.proofs.Common.{◌≡◌, ℕ, zero, suc, ◌+◌, ◌<◌, List, get_or, ap, ◌∙◌, arith}
use Rattle.verdict.specs.Lines.{line_count, nth}
use Rattle.verdict.specs.Rows.{no_row, row_line, lines_from, row_lines}
use Rattle.verdict.specs.declared.row.Row.{Row}

nth_from : (rs : List Row) (j n k : ℕ) → k < n → nth (lines_from rs j n) k ≡ row_line (get_or rs (j + k) no_row)
nth_from rs j zero k h = absurd (omega arith)
nth_from rs j (suc n) zero h =
    let e : j ≡ j + 0 = omega arith in ap (λ (v : ℕ). row_line (get_or rs v no_row)) e
nth_from rs j (suc n) (suc k) h =
    let e : suc j + k ≡ j + suc k = omega arith in
    nth_from rs (suc j) n k (omega arith) ∙ ap (λ (v : ℕ). row_line (get_or rs v no_row)) e

pub nth_told : (rs : List Row) (k : ℕ) → k < line_count → nth (row_lines rs) k ≡ row_line (get_or rs k no_row)
nth_told rs k h =
    let e : 0 + k ≡ k = omega arith in nth_from rs 0 line_count k h ∙ ap (λ (v : ℕ). row_line (get_or rs v no_row)) e
