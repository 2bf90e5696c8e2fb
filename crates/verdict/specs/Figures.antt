-- The figures of a line at its places, which count from 0.
--   figures_of m i        effect, resistance and utilisation of the line m at the place i
--   figures_at m i        the same where the line has such a place, else none
--   no_figures            all 0
--   figures_or_none m i   the figures where the line has such a place, else all 0
--   Consistent xs         each utilisation of a list is that of its effect and its resistance
use Rattle.std.specs.Prelude.{◌≡◌, ℕ, cond, List, Some, None, Option, nat_lt, slice_index_or}
use Rattle.failure.specs.Meanings.{Meaning}
use Rattle.verdict.specs.Utilisations.{utilised, utilisation}
use Rattle.verdict.specs.declared.answer.Shown.{Shown}

abbrev pub figures_of : Meaning → ℕ → Shown
figures_of m i = record { effect = m.effect i; resistance = m.resistance i; utilisation = utilisation m i }

abbrev pub figures_at : Meaning → ℕ → Option Shown
figures_at m i = cond (nat_lt i m.places.count) (Some (figures_of m i)) None

abbrev pub no_figures : Shown
no_figures = record { effect = 0; resistance = 0; utilisation = 0 }

abbrev pub figures_or_none : Meaning → ℕ → Shown
figures_or_none m i = cond (nat_lt i m.places.count) (figures_of m i) no_figures

abbrev pub Consistent : List Shown → Type 0
Consistent xs =
    (i : ℕ) → (slice_index_or xs i no_figures).utilisation ≡ utilised (slice_index_or xs i no_figures).effect (slice_index_or xs i no_figures).resistance
