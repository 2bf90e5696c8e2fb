-- The nearest other bolt is a neighbour.
use Rattle.std.proofs.Common.{◌≡◌, ℕ, ◌+◌, ◌-◌, ◌<◌, ◌≤◌, List, length, min, Option, Some, None, MatchOption, ap, ⊎_elim, arith}
use Rattle.std.proofs.lemmas.Bool.{cases_lt}
use Rattle.bolts.specs.Bolts.{position_at, Spaced}
use Rattle.bolts.specs.Neighbours.{distance, Other, IsGap, Nearer, Nearest, NearestAt}
use Rattle.bolts.specs.declared.bolt.Bolt.{Bolt}
use Rattle.bolts.proofs.Rows.{pairs}

module _ (xs : List Bolt) (s : Spaced xs) (k d : ℕ) (in' : k < length xs) where
  -- no bolt before the k-th lies nearer than d, and none after it
  abbrev Below : Type 0
  Below = (j : ℕ) → j + 1 ≡ k → position_at xs j + d ≤ position_at xs k

  abbrev Above : Type 0
  Above = k + 1 < length xs → position_at xs k + d ≤ position_at xs (k + 1)

  none_below : Below → (j : ℕ) → j < k → position_at xs j + d ≤ position_at xs k
  none_below b j h =
      let e : (k - 1) + 1 ≡ k = omega arith in
      let last = b (k - 1) e in
      ⊎_elim (λ lt. let far = pairs xs s j (k - 1) lt (omega arith) in omega arith) (λ ge. let q : j ≡ k - 1 = omega arith in rw q last) (cases_lt j (k - 1))

  none_above : Above → (j : ℕ) → k < j → j < length xs → position_at xs k + d ≤ position_at xs j
  none_above a j h l =
      let next = a (omega arith) in
      ⊎_elim (λ lt. let far = pairs xs s (k + 1) j lt l in omega arith) (λ ge. let q : j ≡ k + 1 = omega arith in rw q next) (cases_lt (k + 1) j)

  by_neighbours : Below → Above → (j : ℕ) × Other xs k j × (distance xs j k ≡ d) → NearestAt xs k d
  by_neighbours b a some =
      record {
        inside = in';
        some = some;
        none_nearer = λ j o.
            ⊎_elim (λ lt. let f = none_below b j lt in omega arith) (λ ge. let f = none_above a j (omega (arith, o.1)) o.0 in omega arith) (cases_lt j k);
      }

  -- the bolt before the k-th, at the distance d, and that after it
  before : (j : ℕ) → j + 1 ≡ k → position_at xs j + d ≡ position_at xs k → (i : ℕ) × Other xs k i × (distance xs i k ≡ d)
  before j e h = (j, (omega arith, λ q. omega arith), omega arith)

  after : k + 1 < length xs → position_at xs k + d ≡ position_at xs (k + 1) → (i : ℕ) × Other xs k i × (distance xs i k ≡ d)
  after l h = (k + 1, (l, λ q. omega arith), omega arith)

module _ (xs : List Bolt) (s : Spaced xs) (k : ℕ) where
  -- the distance from the bolt before the k-th, and none where there is no such bolt; that to the next likewise
  abbrev pub GapBefore : Option ℕ → Type 0
  GapBefore o = MatchOption o (1 ≤ k → length xs ≤ k) (λ d. (1 ≤ k) × IsGap xs (k - 1) d)

  abbrev pub GapAfter : Option ℕ → Type 0
  GapAfter o = MatchOption o (length xs ≤ k + 1) (IsGap xs k)

  same_place : (j : ℕ) → j + 1 ≡ k → position_at xs (k - 1) ≡ position_at xs j
  same_place j e = let q : k - 1 ≡ j = omega arith in ap (position_at xs) q

  here : 1 ≤ k → position_at xs ((k - 1) + 1) ≡ position_at xs k
  here p = let q : (k - 1) + 1 ≡ k = omega arith in ap (position_at xs) q

  pub nearest_of : (b a z : Option ℕ) → GapBefore b → GapAfter a → Nearer b a z → Nearest xs k z
  nearest_of (Some b) (Some a) z f g e =
      rw e (by_neighbours xs s k (min b a) (omega arith) (λ j q. omega (arith, same_place j q, here f.0)) (λ _. omega arith)
      (⊎_elim
      (λ (lt : b < a). before xs s k (min b a) (omega arith) (k - 1) (omega arith) (omega (arith, here f.0)))
      (λ (ge : a ≤ b). after xs s k (min b a) (omega arith) g.0 (omega arith))
      (cases_lt b a)))
  nearest_of (Some b) None z f last e =
      rw e (by_neighbours xs s k b (omega arith) (λ j q. omega (arith, same_place j q, here f.0)) (λ m. absurd (omega arith))
      (before xs s k b (omega arith) (k - 1) (omega arith) (omega (arith, here f.0))))
  nearest_of None (Some a) z first g e =
      rw e (by_neighbours xs s k a (omega arith) (λ j q. let past = first (omega arith) in absurd (omega arith)) (λ _. omega arith) (after xs s k a (omega arith) g.0 g.1))
  nearest_of None None z first last e =
      rw e (λ h. ⊎_elim (λ p. let past = first p in absurd (omega arith)) (λ n. omega arith) (cases_lt 0 k))
