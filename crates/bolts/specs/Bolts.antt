-- Lists of bolts. Positions are in tenths from the first anchor.
--   bolt_at xs k, position_at xs k   the k-th bolt, from 0, and where it lies
--   Spaced xs                        neighbours lie 300 tenths or more apart, in rising position
--   Sound reach xs                   each bolt lies at most at reach, with its loads in range
--   apart p q, clear p xs            two positions, or one and every bolt, are 300 tenths or more apart
--   bare p xs                        no bolt lies at p
--   placed b xs                      the bolts with one more, at its place by position
--   lifted p xs                      the bolts without the one at p
--   Among b xs                       the bolt is one of the list
use Rattle.std.specs.Prelude.{◌≡◌, ℕ, ◌+◌, ◌<◌, ◌≤◌, Bool, true, not, ◌||◌, ◌⊎◌, List, [], ◌∷◌, ◌++◌, length, filter, ◌==◌, nat_le, nat_lt, slice_index_or}
use Rattle.std.specs.List.{list_all}
use Rattle.bolts.specs.Loads.{loaded}
use Rattle.bolts.specs.declared.bolt.Bolt.{Bolt}

-- what stands past the end of a list
abbrev pub no_bolt : Bolt
no_bolt = record { position = 0; tension = 0; shear = 0 }

abbrev pub bolt_at : List Bolt → ℕ → Bolt
bolt_at xs k = slice_index_or xs k no_bolt

abbrev pub position_at : List Bolt → ℕ → ℕ
position_at xs k = (bolt_at xs k).position

abbrev pub Spaced : List Bolt → Type 0
Spaced xs = (k : ℕ) → k + 1 < length xs → position_at xs k + 300 ≤ position_at xs (k + 1)

abbrev pub Sound : ℕ → List Bolt → Type 0
Sound reach xs = (k : ℕ) → k < length xs → (position_at xs k ≤ reach) × (loaded (bolt_at xs k) ≡ true)

abbrev pub apart : ℕ → ℕ → Bool
apart p q = nat_le (p + 300) q || nat_le (q + 300) p

abbrev pub clear : ℕ → List Bolt → Bool
clear p xs = list_all (λ x. apart p x.position) xs

abbrev pub bare : ℕ → List Bolt → Bool
bare p xs = list_all (λ x. not (x.position == p)) xs

abbrev pub placed : Bolt → List Bolt → List Bolt
placed b xs = filter (λ x. nat_lt x.position b.position) xs ++ b ∷ filter (λ x. nat_lt b.position x.position) xs

abbrev pub lifted : ℕ → List Bolt → List Bolt
lifted p xs = filter (λ x. not (x.position == p)) xs

-- by recursion, and not std's Contains: what is joined or parted is proved bolt by bolt, with no places
abbrev pub Among : Bolt → List Bolt → Type 0
Among b [] = ⊥
Among b (x ∷ xs) = (b ≡ x) ⊎ Among b xs
