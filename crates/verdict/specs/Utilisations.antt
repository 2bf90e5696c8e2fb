-- How far a resistance is used, in ten-thousandths, rounded up.
--   utilised e r          0 for no effect; at most 999,999, which it also is for no resistance
--   utilisation m i       of the line m at its place i, from 0
--   used kind m i         the same where the line has such a place of that kind, else 0
--   largest m             the largest of the line, 0 without a place
use Rattle.std.specs.Prelude.{ℕ, zero, suc, ◌*◌, min, max, Bool, true, false, cond, ◌&&◌, ◌==◌, nat_lt}
use Rattle.roots.specs.Division.{up}
use Rattle.failure.specs.Meanings.{Meaning}
use Rattle.failure.specs.declared.places.PlaceKind.{PlaceKind}
use Rattle.failure.specs.declared.places.PlaceKind.TheVariants.{Bolts, Anchors, Nothing}

abbrev pub utilised : ℕ → ℕ → ℕ
utilised e r = cond (e == 0) 0 (cond (r == 0) 999999 (min (up (10000 * e) r) 999999))

abbrev pub utilisation : Meaning → ℕ → ℕ
utilisation m i = utilised (m.effect i) (m.resistance i)

abbrev pub same_kind : PlaceKind → PlaceKind → Bool
same_kind Bolts Bolts = true
same_kind Bolts Anchors = false
same_kind Bolts Nothing = false
same_kind Anchors Bolts = false
same_kind Anchors Anchors = true
same_kind Anchors Nothing = false
same_kind Nothing Bolts = false
same_kind Nothing Anchors = false
same_kind Nothing Nothing = true

abbrev pub used : PlaceKind → Meaning → ℕ → ℕ
used kind m i = cond (same_kind kind m.places.kind && nat_lt i m.places.count) (utilisation m i) 0

-- of the first n places
abbrev pub largest_of : Meaning → ℕ → ℕ
largest_of m zero = 0
largest_of m (suc n) = max (largest_of m n) (utilisation m n)

unfoldable pub largest : Meaning → ℕ
largest m = largest_of m m.places.count
