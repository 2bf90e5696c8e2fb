-- A bolt that is put in at its slot.
use Rattle.std.proofs.Common.{◌≡◌, ℕ, ◌+◌, ◌-◌, ◌<◌, ◌≤◌, true, false, ltb, List, ◌∷◌, length, filter, sym, refl, ap, subst, inl, inr, ⊎_elim, arith}
use Rattle.std.specs.List.{insert}
use Rattle.std.proofs.lemmas.Bool.{cases_eq, cases_order, lt-ltb, le-ltb}
use Rattle.std.proofs.lemmas.List.Edits.{length-insert, get_or-insert_below, get_or-insert_at, get_or-insert_above}
use Rattle.bolts.specs.Loads.{loaded}
use Rattle.bolts.specs.Bolts.{no_bolt, bolt_at, position_at, Spaced, Sound, clear, placed}
use Rattle.bolts.specs.Placing.{Joined}
use Rattle.bolts.specs.declared.bolt.Bolt.{Bolt}
use Rattle.bolts.proofs.Filters.{kept_by_front, kept_by_back, among_left, among_right, among_cases, among_kept, kept_among, all_among}
use Rattle.bolts.proofs.Rows.{pairs, Slot, beyond, front_by, back_by, Apart, clear_means, clear_at}

module _ (xs : List Bolt) (b : Bolt) (i : ℕ) (s : Spaced xs) (t : Slot xs b.position i) (e : clear b.position xs ≡ true) where
  low : (k : ℕ) → k < i → position_at xs k + 300 ≤ b.position
  low k h =
      let l = t.before k h in
      let w = t.within in
      let c = clear_at b.position xs e k (omega arith) in
      omega arith

  high : (k : ℕ) → i ≤ k → k < length xs → b.position + 300 ≤ position_at xs k
  high k le h =
      let l = beyond s t k le h in
      let c = clear_at b.position xs e k h in
      omega arith

  pub placed_is : insert xs i b ≡ placed b xs
  placed_is =
      let front = kept_by_front (λ x. ltb x.position b.position) xs i
      (front_by (λ x. ltb x.position b.position ≡ true) xs i t.within (λ k h. lt-ltb _ _ (t.before k h)))
      (back_by (λ x. ltb x.position b.position ≡ false) xs i t.within (λ k le h. le-ltb _ _ (beyond s t k le h))) in
      let back = kept_by_back (λ x. ltb b.position x.position) xs i
      (front_by (λ x. ltb b.position x.position ≡ false) xs i t.within (λ k h. let l = low k h in le-ltb _ _ (omega arith)))
      (back_by (λ x. ltb b.position x.position ≡ true) xs i t.within (λ k le h. let l = high k le h in lt-ltb _ _ (omega arith))) in
      rw (front, back)

  at_below : (k : ℕ) → k < i → bolt_at (insert xs i b) k ≡ bolt_at xs k
  at_below k h = get_or-insert_below xs i b no_bolt k h t.within

  at_slot : (k : ℕ) → k ≡ i → bolt_at (insert xs i b) k ≡ b
  at_slot k h = rw h (get_or-insert_at xs i b no_bolt t.within)

  at_above : (k j : ℕ) → i ≤ k → j ≡ k + 1 → bolt_at (insert xs i b) j ≡ bolt_at xs k
  at_above k j h e = rw e (get_or-insert_above xs i b no_bolt k h t.within)

  position_below : (k : ℕ) → k < i → position_at (insert xs i b) k ≡ position_at xs k
  position_below k h = ap (λ (x : Bolt). x.position) (at_below k h)

  position_slot : (k : ℕ) → k ≡ i → position_at (insert xs i b) k ≡ b.position
  position_slot k h = ap (λ (x : Bolt). x.position) (at_slot k h)

  position_above : (k j : ℕ) → i ≤ k → j ≡ k + 1 → position_at (insert xs i b) j ≡ position_at xs k
  position_above k j h e = ap (λ (x : Bolt). x.position) (at_above k j h e)

  pub spaced_inserted : Spaced (insert xs i b)
  spaced_inserted k h =
      let n = length-insert xs i b t.within in
      ⊎_elim (λ eq. omega (arith, low k (omega arith), position_below k (omega arith), position_slot (k + 1) eq))
      (⊎_elim (λ lt. omega (arith, s k (omega (arith, t.within)), position_below k (omega arith), position_below (k + 1) lt))
      (λ gt.
      ⊎_elim (λ eq. omega (arith, high k (omega arith) (omega arith), position_slot k eq, position_above k (k + 1) (omega arith) refl))
      (λ ne. omega (arith, pairs xs s (k - 1) k (omega arith) (omega arith), position_above (k - 1) k (omega arith) (omega arith), position_above k (k + 1) (omega arith) refl))
      (cases_eq k i)))
      (cases_order (k + 1) i)

  pub sound_inserted : (reach : ℕ) → Sound reach xs → b.position ≤ reach → loaded b ≡ true → Sound reach (insert xs i b)
  sound_inserted reach o r l k h =
      let n = length-insert xs i b t.within in
      let P : Bolt → Type 0 = λ x. (x.position ≤ reach) × (loaded x ≡ true) in
      ⊎_elim (λ eq. subst P (sym (at_slot k eq)) (r, l))
      (⊎_elim (λ lt. subst P (sym (at_below k lt)) (o k (omega (arith, t.within))))
      (λ gt. subst P (sym (at_above (k - 1) k (omega arith) (omega arith))) (o (k - 1) (omega arith))))
      (cases_order k i)

-- a bolt that is clear of every other is joined to them
pub placed_joins : (b : Bolt) (xs : List Bolt) → clear b.position xs ≡ true → Joined b xs (placed b xs)
placed_joins b xs e =
    let lower = λ (x : Bolt). ltb x.position b.position in
    let upper = λ (x : Bolt). ltb b.position x.position in
    record {
      has = among_right b (filter lower xs) (b ∷ filter upper xs) (inl refl);
      keeps = λ x h.
          ⊎_elim
          (λ up. among_right x (filter lower xs) (b ∷ filter upper xs) (inr (kept_among upper x xs h (lt-ltb _ _ (omega arith)))))
          (λ down. among_left x (filter lower xs) (b ∷ filter upper xs) (kept_among lower x xs h (lt-ltb _ _ (omega arith))))
          (all_among (λ y. Apart b.position y.position) x xs ((clear_means b.position xs).0 e) h);
      only = λ x h.
          ⊎_elim (λ l. inr (among_kept lower x xs l).0) (λ r. ⊎_elim (λ eq. inl eq) (λ u. inr (among_kept upper x xs u).0) r) (among_cases x (filter lower xs) (b ∷ filter upper xs) h);
    }
