-- Rows: what the code holds of the lines of a sheet.
--   no_row                a row without places
--   RowOf m r             the row r is of the line m: its kind, how many places, and the figures of each
--   row_line r            the line as far as its row tells it
--   row_lines rs          the lines of thirteen rows
use Rattle.std.specs.Prelude.{◌≡◌, ℕ, zero, suc, List, [], ◌∷◌, get_or, slice_index_or, refl}
use Rattle.std.proofs.Common.{lit≤}
use Rattle.failure.specs.Meanings.{Meaning}
use Rattle.failure.specs.declared.places.PlaceKind.TheVariants.{Nothing}
use Rattle.bolts.specs.declared.bolt.Direction.TheVariants.{Tension}
use Rattle.verdict.specs.Lines.{line_count}
use Rattle.verdict.specs.Figures.{no_figures, figures_or_none}
use Rattle.verdict.specs.declared.row.Row.{Row}

abbrev pub no_row : Row
no_row = record { kind = Nothing; count = 0; figures = []; few = lit≤ tt; consistent = λ _. refl }

pub record RowOf (m : Meaning) (r : Row) : Type 0 where
  pub kind : r.kind ≡ m.places.kind
  pub count : r.count ≡ m.places.count
  pub figures : (i : ℕ) → slice_index_or r.figures i no_figures ≡ figures_or_none m i

-- a row tells nothing of readings and allowance
abbrev pub row_line : Row → Meaning
row_line r = record {
  places = record { kind = r.kind; count = r.count };
  allowance = 0;
  direction = Tension;
  effect = λ i. (get_or r.figures i no_figures).effect;
  resistance = λ i. (get_or r.figures i no_figures).resistance;
  low_effect = λ _ _. Unit {0};
  high_effect = λ _ _. Unit {0};
  low_resistance = λ _ _. Unit {0};
  high_resistance = λ _ _. Unit {0};
}

-- n lines, from the k-th row on
abbrev pub lines_from : List Row → ℕ → ℕ → List Meaning
lines_from rs k zero = []
lines_from rs k (suc n) = row_line (slice_index_or rs k no_row) ∷ lines_from rs (suc k) n

abbrev pub row_lines : List Row → List Meaning
row_lines rs = lines_from rs 0 line_count
