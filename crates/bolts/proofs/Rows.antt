-- Bolts in rising position: any two of them, and where a position belongs among them.
use Rattle.std.proofs.Common.{◌≡◌, ℕ, zero, suc, ◌+◌, ◌<◌, ◌≤◌, true, not, eqb, ◌⊎◌, List, length, take, drop, Decides, refl, ⊎_elim, le_refl, add-one, arith, length-drop, length-take}
use Rattle.std.specs.List.{All}
use Rattle.std.specs.List.Sorted.{IsNonDecreasingBy}
use Rattle.std.proofs.lemmas.Bool.{cases_lt}
use Rattle.std.proofs.lemmas.Bool.Decides.{nat_tests, Decides-by_and}
use Rattle.std.proofs.lemmas.List.Elements.{All-get_or, All-from_get_or}
use Rattle.std.proofs.lemmas.List.{get_or-take, get_or-drop}
use Rattle.std.proofs.lemmas.List.Sorted.{IsNonDecreasingBy-from_default}
use Rattle.bolts.specs.Bolts.{no_bolt, bolt_at, position_at, Spaced, apart, clear, bare}
use Rattle.bolts.specs.declared.bolt.Bolt.{Bolt}

-- any two bolts, and not only neighbours
pub pairs : (xs : List Bolt) → Spaced xs → (i j : ℕ) → i < j → j < length xs → position_at xs i + 300 ≤ position_at xs j
pairs xs s i zero h l = absurd (omega arith)
pairs xs s i (suc j) h l =
    let next : position_at xs j + 300 ≤ position_at xs (suc j) = rw add-one at (s j (omega arith)) in
    ⊎_elim (λ lt. let far = pairs xs s i j lt (omega arith) in omega arith) (λ ge. let e : i ≡ j = omega arith in rw e next) (cases_lt i j)

pub rising : (xs : List Bolt) → Spaced xs → IsNonDecreasingBy (λ b. b.position) xs
rising xs s =
    IsNonDecreasingBy-from_default (λ b. b.position) xs no_bolt (λ i j le h.
    ⊎_elim (λ lt. let far = pairs xs s i j lt h in omega arith) (λ ge. let e : i ≡ j = omega arith in rw e (le_refl _)) (cases_lt i j))

-- what holds of the front and the back, by places
pub front_by : (q : Bolt → Type 0) (xs : List Bolt) (i : ℕ) → i ≤ length xs → ((k : ℕ) → k < i → q (bolt_at xs k)) → All q (take i xs)
front_by q xs i le h =
    All-from_get_or q (take i xs) no_bolt (λ k l. let lt : k < i = omega (arith, simp length-take at l) in rw get_or-take (h k lt))

pub back_by : (q : Bolt → Type 0) (xs : List Bolt) (i : ℕ) → i ≤ length xs → ((k : ℕ) → i ≤ k → k < length xs → q (bolt_at xs k)) → All q (drop i xs)
back_by q xs i le h =
    All-from_get_or q (drop i xs) no_bolt (λ k l. let lt : i + k < length xs = omega (arith, simp length-drop at l) in rw get_or-drop (h (i + k) (omega arith) lt))

-- i bolts lie before p
pub record Slot (xs : List Bolt) (p i : ℕ) : Type 0 where
  pub within : i ≤ length xs
  pub before : (k : ℕ) → k < i → position_at xs k < p
  pub stop : i < length xs → p ≤ position_at xs i

-- the bolts from the slot on do not lie before p
pub beyond : {xs : List Bolt} {p i : ℕ} → Spaced xs → Slot xs p i → (k : ℕ) → i ≤ k → k < length xs → p ≤ position_at xs k
beyond {xs} {p} {i} s t k le lt =
    ⊎_elim (λ h. let far = pairs xs s i k h lt in let at = t.stop (omega arith) in omega arith) (λ h. let e : k ≡ i = omega arith in rw e (t.stop (omega arith))) (cases_lt i k)

abbrev pub Apart : ℕ → ℕ → Type 0
Apart p q = (p + 300 ≤ q) ⊎ (q + 300 ≤ p)

each_clear : (p : ℕ) (x : Bolt) → Decides (apart p x.position) (Apart p x.position)
each_clear p x = grind (arith, nat_tests)

pub clear_means : (p : ℕ) (xs : List Bolt) → Decides (clear p xs) (All (λ x. Apart p x.position) xs)
clear_means p xs =
    Decides-by_and (λ x. apart p x.position) (λ x. Apart p x.position) (clear p) (each_clear p) refl (λ _ _. refl) xs

pub clear_at : (p : ℕ) (xs : List Bolt) → clear p xs ≡ true → (k : ℕ) → k < length xs → Apart p (position_at xs k)
clear_at p xs e k h = All-get_or (λ x. Apart p x.position) xs k no_bolt h ((clear_means p xs).0 e)

each_bare : (p : ℕ) (x : Bolt) → Decides (not (eqb x.position p)) (x.position ≡ p → ⊥)
each_bare p x = grind (arith, nat_tests)

pub bare_means : (p : ℕ) (xs : List Bolt) → Decides (bare p xs) (All (λ x. x.position ≡ p → ⊥) xs)
bare_means p xs =
    Decides-by_and (λ x. not (eqb x.position p)) (λ x. x.position ≡ p → ⊥) (bare p) (each_bare p) refl (λ _ _. refl) xs
