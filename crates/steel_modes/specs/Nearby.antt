-- How far a bolt lies from the nearest other one, as a function of the bolts.
--   closer d o              the smaller of a distance and another, if there is another
--   nearest_among xs k n    the least distance of the k-th bolt to another of the first n, in tenths
--   nearest_of xs k         to another of all; none where there is no other
use Rattle.std.specs.Prelude.{ℕ, zero, suc, min, cond, List, length, Some, None, Option, ◌==◌}
use Rattle.bolts.specs.Neighbours.{distance}
use Rattle.bolts.specs.declared.bolt.Bolt.{Bolt}

abbrev pub closer : ℕ → Option ℕ → Option ℕ
closer d None = Some d
closer d (Some e) = Some (min d e)

abbrev pub nearest_among : List Bolt → ℕ → ℕ → Option ℕ
nearest_among xs k zero = None
nearest_among xs k (suc n) = cond (n == k) (nearest_among xs k n) (closer (distance xs n k) (nearest_among xs k n))

unfoldable pub nearest_of : List Bolt → ℕ → Option ℕ
nearest_of xs k = nearest_among xs k (length xs)
