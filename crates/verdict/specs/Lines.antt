-- The lines of a sheet: the meanings of its failure modes.
--   line_count    how many lines a sheet has
--   most_places   how many places a line has at most: a case has at most 16 bolts and at most 12 anchors
--   no_line       a line without places
--   nth ms k      the k-th line, from 0; no_line past the last
--   line ms l     the l-th line, from 1
use Rattle.std.specs.Prelude.{ℕ, zero, suc, ◌-◌, List, [], ◌∷◌}
use Rattle.bolts.specs.declared.bolt.Direction.TheVariants.{Tension}
use Rattle.failure.specs.Meanings.{Meaning}
use Rattle.failure.specs.declared.places.PlaceKind.TheVariants.{Nothing}

abbrev pub line_count : ℕ
line_count = 13

abbrev pub most_places : ℕ
most_places = 16

abbrev pub no_line : Meaning
no_line = record {
  places = record { kind = Nothing; count = 0 };
  allowance = 0;
  direction = Tension;
  effect = λ _. 0;
  resistance = λ _. 0;
  low_effect = λ _ _. Unit {0};
  high_effect = λ _ _. Unit {0};
  low_resistance = λ _ _. Unit {0};
  high_resistance = λ _ _. Unit {0};
}

abbrev pub nth : List Meaning → ℕ → Meaning
nth [] k = no_line
nth (m ∷ ms) zero = m
nth (m ∷ ms) (suc k) = nth ms k

abbrev pub line : List Meaning → ℕ → Meaning
line ms l = nth ms (l - 1)
