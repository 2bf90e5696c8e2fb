-- The nearest distance is what the table answers.
use Rattle.std.proofs.Common.{◌≡◌, ℕ, zero, suc, ◌<◌, ◌≤◌, min, Bool, true, false, cond, eqb, List, length, Some, None, Option, refl, ap, ⊎_elim, arith, eqb-true}
use borrow.Author.Tests.{eqb-false}
use Rattle.std.proofs.lemmas.Bool.{cases_lt}
use Rattle.bolts.specs.Neighbours.{distance, Nearest}
use Rattle.bolts.specs.declared.bolt.Bolt.{Bolt}
use Rattle.steel_modes.specs.Nearby.{closer, nearest_among, nearest_of}

module _ (xs : List Bolt) (k : ℕ) where
  -- the least among the first n, or none
  abbrev Least : ℕ → Option ℕ → Type 0
  Least n None = (j : ℕ) → j < n → j ≡ k
  Least n (Some d) =
      ((j : ℕ) × (j < n) × (j ≡ k → ⊥) × (distance xs j k ≡ d)) × ((j : ℕ) → j < n → (j ≡ k → ⊥) → d ≤ distance xs j k)

  same : (n : ℕ) (o : Option ℕ) → n ≡ k → Least n o → Least (suc n) o
  same n None e h = λ j l. ⊎_elim (λ (lt : j < n). h j lt) (λ (ge : n ≤ j). omega arith) (cases_lt j n)
  same n (Some d) e ((i, l, other, at), least) = (
    (i, omega arith, other, at),
    λ j m o. ⊎_elim (λ (lt : j < n). least j lt o) (λ (ge : n ≤ j). absurd (o (omega arith))) (cases_lt j n),
  )

  -- of the last of them
  at_last : (n j : ℕ) → j < suc n → n ≤ j → distance xs n k ≡ distance xs j k
  at_last n j m ge = let e : n ≡ j = omega arith in ap (λ (v : ℕ). distance xs v k) e

  other : (n : ℕ) (o : Option ℕ) → (n ≡ k → ⊥) → Least n o → Least (suc n) (closer (distance xs n k) o)
  other n None e h = (
    (n, omega arith, e, refl),
    λ j m o. ⊎_elim (λ (lt : j < n). absurd (o (h j lt))) (λ (ge : n ≤ j). omega (arith, at_last n j m ge)) (cases_lt j n),
  )
  other n (Some d) e ((i, l, o, at), least) =
      (some, λ j m p. ⊎_elim (λ (lt : j < n). omega (arith, least j lt p)) (λ (ge : n ≤ j). omega (arith, at_last n j m ge)) (cases_lt j n))
    where
      some : (j : ℕ) × (j < suc n) × (j ≡ k → ⊥) × (distance xs j k ≡ min (distance xs n k) d)
      some =
          ⊎_elim (λ (lt : distance xs n k < d). (n, omega arith, e, omega arith))
          (λ (ge : d ≤ distance xs n k). (i, omega arith, o, omega arith)) (cases_lt (distance xs n k) d)

  step : (n : ℕ) (t : Bool) → eqb n k ≡ t → (o : Option ℕ) → Least n o → Least (suc n) (cond t o (closer (distance xs n k) o))
  step n true e o h = same n o (eqb-true n k e) h
  step n false e o h = other n o (eqb-false n k e) h

  least_among : (n : ℕ) → Least n (nearest_among xs k n)
  least_among zero = λ j l. absurd (omega arith)
  least_among (suc n) = step n (eqb n k) refl (nearest_among xs k n) (least_among n)

  agree : (o p : Option ℕ) → k < length xs → Nearest xs k o → Least (length xs) p → o ≡ p
  agree None None h near least = refl
  agree None (Some d) h near ((i, l, o, at), least) =
      let one = near h in absurd (o (omega arith))
  agree (Some d) None h near least =
      absurd (near.some.1.1 (least near.some.0 near.some.1.0))
  agree (Some d) (Some e) h near ((i, l, o, at), least) =
      let a = near.none_nearer i (l, o) in
      let b = least near.some.0 near.some.1.0 near.some.1.1 in
      let f = near.some.2 in
      let g : d ≡ e = omega arith in
      ap Some g

  pub nearest_agrees : (o : Option ℕ) → k < length xs → Nearest xs k o → o ≡ nearest_of xs k
  unfolding nearest_of
  nearest_agrees o h near = agree o (nearest_of xs k) h near (least_among (length xs))
