-- The bolt that lies at a position, and the others without it.
use Rattle.std.proofs.Common.{◌≡◌, ℕ, ◌+◌, ◌<◌, ◌≤◌, Bool, true, false, not, eqb, List, length, Result, Ok, Err, take, drop, filter, sym, ◌∙◌, subst, ⊎_elim, add-one, arith}
use Rattle.std.specs.List.{remove}
use Rattle.std.specs.List.Sorted.{IsSearchInRange, IsBinarySearchResult, IsNonDecreasingBy}
use Rattle.std.specs.Ordering.{nat_cmp, ordering_index}
use Rattle.std.specs.Result.{result_ok}
use Rattle.std.proofs.lemmas.Cmp.{ranked}
use Rattle.std.proofs.lemmas.List.Sorted.{IsNonDecreasingBy-from_default}
use Rattle.std.proofs.lemmas.Bool.{cases_lt, cases_Bool, eq-eqb}
use Rattle.std.proofs.lemmas.Bool.Decides.{nat_tests}
use Rattle.std.proofs.lemmas.List.Elements.{All-get_or, All-from_get_or}
use Rattle.std.proofs.lemmas.List.{drop_more}
use Rattle.bolts.specs.Bolts.{no_bolt, position_at, Spaced, bare, lifted}
use Rattle.bolts.specs.Placing.{Parted, At, Found}
use Rattle.bolts.specs.declared.bolt.Bolt.{Bolt}
use Rattle.bolts.proofs.Filters.{kept_by_all, kept_by_split, among_kept, kept_among}
use Rattle.bolts.proofs.Rows.{pairs, rising, front_by, back_by, bare_means}

-- the lifted list has the bolts that do not lie at p
pub lifted_parts : (p : ℕ) (xs : List Bolt) → Parted p xs (lifted p xs)
lifted_parts p xs =
    let q = λ (x : Bolt). not (eqb x.position p) in
    record {
      gone = λ x h e. let k = (among_kept q x xs h).1 in grind (arith, nat_tests);
      keeps = λ x h ne. kept_among q x xs h (grind (arith, nat_tests));
      only = λ x h. (among_kept q x xs h).0;
    }

module _ (xs : List Bolt) (p i : ℕ) (s : Spaced xs) (lt : i < length xs) (at : position_at xs i ≡ p) where
  removed_is : remove xs i ≡ lifted p xs
  removed_is =
      let q : Bolt → Bool = λ x. not (eqb x.position p) in
      let front = kept_by_all q (take i xs) (front_by (λ x. not (eqb x.position p) ≡ true) xs i (omega arith) (λ k h. let l = pairs xs s k i h lt in grind (arith, nat_tests))) in
      let back = kept_by_all q (drop (i + 1) xs) (back_by (λ x. not (eqb x.position p) ≡ true) xs (i + 1) (omega arith) (λ k le h. let l = pairs xs s i k (omega arith) h in grind (arith, nat_tests))) in
      let here : filter q (drop i xs) ≡ filter q (drop (i + 1) xs) = rw (drop_more xs i no_bolt lt, eq-eqb _ _ at) in
      sym (kept_by_split q xs i ∙ rw (front, here, back, add-one))

  not_bare : bare p xs ≡ false
  not_bare =
      ⊎_elim (λ e. absurd (All-get_or (λ x. x.position ≡ p → ⊥) xs i no_bolt lt ((bare_means p xs).0 e) at)) (λ e. e) (cases_Bool (bare p xs))

  found : At xs p i
  found = record { inside = lt; present = not_bare; without = removed_is; parts = subst (Parted p xs) (sym removed_is) (lifted_parts p xs) }

module _ (xs : List Bolt) (s : Spaced xs) (p : ℕ) where
  -- the comparisons with p rise along the bolts, as a binary search asks
  comparisons_rise : IsNonDecreasingBy (λ b. ordering_index (nat_cmp b.position p)) xs
  comparisons_rise =
      IsNonDecreasingBy-from_default (λ b. ordering_index (nat_cmp b.position p)) xs no_bolt (λ i j le h.
      let rise : position_at xs i ≤ position_at xs j = rising xs s i j no_bolt le h in
      grind (arith, nat_tests))

  -- a binary search ends at the bolt, or none lies there
  pub searched : (r : Result ℕ ℕ) → IsSearchInRange r (length xs) → IsBinarySearchResult (λ b. nat_cmp b.position p) xs r → Found xs p (result_ok r)
  searched (Ok i) inside equal = found xs p i s inside (ranked _ p _ (sym (equal no_bolt)))
  searched (Err i) inside parted =
      let parts = parted comparisons_rise in
      (bare_means p xs).1 (All-from_get_or (λ x. x.position ≡ p → ⊥) xs no_bolt (λ k h e.
      ⊎_elim (λ lt. omega (arith, ranked _ p _ (sym (parts.0 k no_bolt (omega arith) lt)))) (λ ge. omega (arith, ranked _ p _ (sym (parts.1 k no_bolt ge h)))) (cases_lt k i)))
