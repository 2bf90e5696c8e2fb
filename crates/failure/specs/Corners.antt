-- The nearer corner of the concrete, in µm. The corners lie `first` before the first anchor and `last` after the last.
--   position_of c kind i                  where the place i lies, from the first anchor
--   nearer first last end position        the smaller way from a position to a corner, with the last anchor at end
--   corner_distance c kind first last i   how far the nearer corner lies from the place i
--   corner_meaning first last b p c m     the mode m under a root reduction by that distance over b
use Rattle.std.specs.Prelude.{ℕ, ◌+◌, ◌*◌, ◌<◌, min}
use Rattle.fractions.specs.Fractions.{over}
use Rattle.bolts.specs.Bolts.{position_at}
use Rattle.forces.specs.Shares.{gap}
use Rattle.forces.specs.Cases.{Case, reach, um}
use Rattle.failure.specs.Meanings.{Meaning}
use Rattle.failure.specs.Reductions.{root_meaning}
use Rattle.failure.specs.declared.places.PlaceKind.{PlaceKind}
use Rattle.failure.specs.declared.places.PlaceKind.TheVariants.{Bolts, Anchors, Nothing}

abbrev pub position_of : Case → PlaceKind → ℕ → ℕ
position_of c Bolts i = um (position_at c.bolts i)
position_of c Anchors i = um (i * c.opening.spacing)
position_of c Nothing i = 0

abbrev pub nearer : ℕ → ℕ → ℕ → ℕ → ℕ
nearer first last end position = min (first + position) (last + gap position end)

abbrev pub corner_distance : Case → PlaceKind → ℕ → ℕ → ℕ → ℕ
corner_distance c kind first last i = nearer first last (um (reach c.opening)) (position_of c kind i)

abbrev pub corner_meaning : ℕ → ℕ → (b : ℕ) → 0 < b → Case → Meaning → Meaning
corner_meaning first last b p c m =
    root_meaning (λ i. over (corner_distance c m.places.kind first last i) b p) m
