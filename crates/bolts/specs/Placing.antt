-- What is asked before a bolt is placed or lifted, and what holds after.
--   asked_of_place, asked_of_lift   the questions in order
--   Joined b old new                the new bolts are exactly the old ones and b
--   Parted p old new                the new bolts are exactly the old ones but that at p
--   Found xs p answer               the place of the bolt at p, or none
use Rattle.std.specs.Prelude.{◌≡◌, ℕ, ◌<◌, true, false, not, ◌⊎◌, List, [], ◌∷◌, length, Some, None, Option, ◌≢◌, nat_le, nat_lt}
use Rattle.std.specs.List.{remove}
use Rattle.bolts.specs.Asked.{Asked}
use Rattle.bolts.specs.Loads.{loaded}
use Rattle.bolts.specs.Bolts.{Among, clear, bare, lifted}
use Rattle.bolts.specs.declared.bolt.Bolt.{Bolt}
use Rattle.bolts.specs.declared.refusal.Refusal.TheVariants.{Position, Loads, Full, Near, NoBolt}

abbrev pub asked_of_place : ℕ → List Bolt → Bolt → Asked
asked_of_place reach xs b =
    (nat_le b.position reach, Position)
    ∷ (loaded b, Loads)
    ∷ (nat_lt (length xs) 16, Full)
    ∷ (clear b.position xs, Near)
    ∷ []

abbrev pub asked_of_lift : List Bolt → ℕ → Asked
asked_of_lift xs p = (not (bare p xs), NoBolt) ∷ []

pub record Joined (b : Bolt) (old new : List Bolt) : Type 0 where
  pub has : Among b new
  pub keeps : (x : Bolt) → Among x old → Among x new
  pub only : (x : Bolt) → Among x new → (x ≡ b) ⊎ Among x old

pub record Parted (p : ℕ) (old new : List Bolt) : Type 0 where
  pub gone : (x : Bolt) → Among x new → x.position ≢ p
  pub keeps : (x : Bolt) → Among x old → (x.position ≢ p) → Among x new
  pub only : (x : Bolt) → Among x new → Among x old

-- the i-th bolt, and no other, lies at p
pub record At (xs : List Bolt) (p i : ℕ) : Type 0 where
  pub inside : i < length xs
  pub present : bare p xs ≡ false
  pub without : remove xs i ≡ lifted p xs
  pub parts : Parted p xs (remove xs i)

abbrev pub Found : List Bolt → ℕ → Option ℕ → Type 0
Found xs p None = bare p xs ≡ true
Found xs p (Some i) = At xs p i
