-- What a number that is found at a place tells.
use Rattle.std.proofs.Common.{◌≡◌, ℕ, ◌<◌, Bool, true, false, cond, ltb, Some, None, refl, ltb-true}
use Rattle.failure.specs.Meanings.{at_place}

-- the place is one of n, and the number is that of the place
pub found_at : (n i : ℕ) (f : ℕ → ℕ) (v : ℕ) → at_place n f i ≡ Some v → (i < n) × (f i ≡ v)
found_at n i f v = step (ltb i n) refl
  where
    step : (t : Bool) → ltb i n ≡ t → cond t (Some (f i)) None ≡ Some v → (i < n) × (f i ≡ v)
    step true k e = (ltb-true i n k, cc)
    step false k e = cc
