-- How far a bolt lies from the nearest other one.
--   distance xs j k        the distance between two bolts of a list, in tenths
--   IsGap xs k d           there is a next bolt after the k-th, and it lies d tenths on
--   Nearer x y z           z is the smaller of two distances, or the one that there is
--   Nearest xs k answer    some other bolt lies at the distance answered from the k-th, and none lies nearer; no
--                          distance is answered exactly where there is no k-th bolt, or it is the only one
use Rattle.std.specs.Prelude.{◌≡◌, ℕ, ◌+◌, ◌-◌, ◌<◌, ◌≤◌, List, length, Some, None, Option, min, ◌≢◌}
use Rattle.bolts.specs.Bolts.{position_at}
use Rattle.bolts.specs.declared.bolt.Bolt.{Bolt}

-- one of the two differences is 0
abbrev pub distance : List Bolt → ℕ → ℕ → ℕ
distance xs j k = (position_at xs j - position_at xs k) + (position_at xs k - position_at xs j)

abbrev pub IsGap : List Bolt → ℕ → ℕ → Type 0
IsGap xs k d = (k + 1 < length xs) × (position_at xs k + d ≡ position_at xs (k + 1))

-- the j-th bolt is another than the k-th
abbrev pub Other : List Bolt → ℕ → ℕ → Type 0
Other xs k j = (j < length xs) × (j ≢ k)

abbrev pub Nearer : Option ℕ → Option ℕ → Option ℕ → Type 0
Nearer None y z = z ≡ y
Nearer (Some x) None z = z ≡ Some x
Nearer (Some x) (Some y) z = z ≡ Some (min x y)

pub record NearestAt (xs : List Bolt) (k d : ℕ) : Type 0 where
  pub inside : k < length xs
  pub some : (j : ℕ) × Other xs k j × (distance xs j k ≡ d)
  pub none_nearer : (j : ℕ) → Other xs k j → d ≤ distance xs j k

abbrev pub Nearest : List Bolt → ℕ → Option ℕ → Type 0
Nearest xs k None = k < length xs → length xs ≡ 1
Nearest xs k (Some d) = NearestAt xs k d
