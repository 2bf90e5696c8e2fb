-- Lines with the same places and the same utilisations have the same verdict.
use Rattle.std.proofs.Common.{◌≡◌, ℕ, zero, suc, ◌-◌, ◌<◌, ◌≤◌, max, Bool, true, false, cond, ◌&&◌, ltb, leb, List, get_or, Some, Option, sym, refl, ap, ◌∙◌, inl, inr, arith}
use Rattle.std.proofs.lemmas.Bool.{cases_lt, lt-ltb, le-ltb, cond-true}
use Rattle.failure.specs.Meanings.{Meaning}
use Rattle.failure.specs.declared.places.PlaceKind.{PlaceKind}
use Rattle.failure.specs.declared.places.PlaceKind.TheVariants.{Bolts, Anchors}
use Rattle.verdict.specs.Lines.{line_count, most_places, nth, line}
use Rattle.verdict.specs.Utilisations.{utilised, utilisation, same_kind, used, largest_of, largest}
use Rattle.verdict.specs.Checks.{all_below, bolt_steel, channel, anchor, check_1, check_2, check_3, check_4, line_within, none_over}
use Rattle.verdict.specs.Governing.{larger, with_places, of_lines, governing}
use Rattle.verdict.specs.Answers.{verdict}
use Rattle.verdict.specs.Rows.{no_row, RowOf, row_line, row_lines}
use Rattle.verdict.specs.declared.answer.Governing.{Governing}
use Rattle.verdict.specs.declared.answer.Shown.{Shown}
use Rattle.verdict.specs.declared.row.Row.{Row}
use Rattle.verdict.proofs.Below.{below_same}
use Rattle.verdict.proofs.Told.{nth_told}

record Same (m n : Meaning) : Type 0 where
  kind : m.places.kind ≡ n.places.kind
  count : m.places.count ≡ n.places.count
  each : (i : ℕ) → i < m.places.count → utilisation m i ≡ utilisation n i

module _ (m n : Meaning) (same : Same m n) where
  used_same : (k : PlaceKind) (i : ℕ) → used k m i ≡ used k n i
  used_same k i =
      elim (cases_lt i m.places.count) [ inl h ↦ here h | inr h ↦ past h ]
    where
      moved : used k m i ≡ cond (same_kind k n.places.kind && ltb i n.places.count) (utilisation m i) 0
      moved =
          ap (λ (v : PlaceKind). cond (same_kind k v && ltb i m.places.count) (utilisation m i) 0) same.kind
          ∙ ap (λ (v : ℕ). cond (same_kind k n.places.kind && ltb i v) (utilisation m i) 0) same.count

      here : i < m.places.count → used k m i ≡ used k n i
      here h = moved ∙ ap (λ (v : ℕ). cond (same_kind k n.places.kind && ltb i n.places.count) v 0) (same.each i h)

      none : (b : Bool) (v w : ℕ) → cond (b && false) v 0 ≡ cond (b && false) w 0
      none true v w = refl
      none false v w = refl

      past : m.places.count ≤ i → used k m i ≡ used k n i
      past h =
          let e : ltb i n.places.count ≡ false = le-ltb i n.places.count (omega (arith, same.count)) in
          let x : cond (same_kind k n.places.kind && ltb i n.places.count) (utilisation m i) 0 ≡ used k n i = rw e (none (same_kind k n.places.kind) (utilisation m i) (utilisation n i)) in
          moved ∙ x

  largest_of_same : (p : ℕ) → p ≤ m.places.count → largest_of m p ≡ largest_of n p
  largest_of_same zero h = refl
  largest_of_same (suc p) h =
      ap (λ (v : ℕ). max v (utilisation m p)) (largest_of_same p (omega arith)) ∙ ap (max (largest_of n p)) (same.each p (omega arith))

  largest_same : largest m ≡ largest n
  unfolding largest
  largest_same = largest_of_same m.places.count (omega arith) ∙ ap (largest_of n) same.count

  within_same : line_within m ≡ line_within n
  within_same =
      below_same m.places.count (λ i. leb (utilisation m i) 10000) (λ i. leb (utilisation n i) 10000) (λ i h. ap (λ (v : ℕ). leb v 10000) (same.each i h))
      ∙ ap (λ (p : ℕ). all_below p (λ i. leb (utilisation n i) 10000)) same.count

  places_same : (g : Option Governing) (l p : ℕ) → p ≤ m.places.count → with_places g l m p ≡ with_places g l n p
  places_same g l zero h = refl
  places_same g l (suc p) h =
      ap (λ (v : Option Governing). Some (larger v (record { utilisation = utilisation m p; line = l; place = suc p }))) (places_same g l p (omega arith))
      ∙ ap (λ (v : ℕ). Some (larger (with_places g l n p) (record { utilisation = v; line = l; place = suc p }))) (same.each p (omega arith))

  all_places_same : (g : Option Governing) (l : ℕ) → with_places g l m m.places.count ≡ with_places g l n n.places.count
  all_places_same g l = places_same g l m.places.count (omega arith) ∙ ap (with_places g l n) same.count

module _ (ms ns : List Meaning) (same : (k : ℕ) → k < line_count → Same (nth ms k) (nth ns k)) where
  used_line : (l : ℕ) → l - 1 < line_count → (k : PlaceKind) (i : ℕ) → used k (line ms l) i ≡ used k (line ns l) i
  used_line l h = used_same (line ms l) (line ns l) (same (l - 1) h)

  largest_line : (l : ℕ) → l - 1 < line_count → largest (line ms l) ≡ largest (line ns l)
  largest_line l h = largest_same (line ms l) (line ns l) (same (l - 1) h)

  check_1_same : check_1 ms ≡ check_1 ns
  unfolding check_1
  check_1_same =
      below_same most_places (λ i. leb (bolt_steel ms i) 100000000) (λ i. leb (bolt_steel ns i) 100000000) (λ i h.
      rw (used_line 4 (omega arith) Bolts i, used_line 8 (omega arith) Bolts i) refl)

  check_2_same : check_2 ms ≡ check_2 ns
  unfolding check_2
  check_2_same =
      below_same most_places (λ i. leb (channel ms i) 10000) (λ i. leb (channel ns i) 10000) (λ i h.
      rw (used_line 3 (omega arith) Bolts i, used_line 5 (omega arith) Bolts i, used_line 9 (omega arith) Bolts i) refl)

  check_3_same : check_3 ms ≡ check_3 ns
  unfolding check_3
  check_3_same =
      below_same most_places (λ i. leb (anchor ms i) 10000) (λ i. leb (anchor ns i) 10000) (λ i h.
      rw (used_line 1 (omega arith) Anchors i, used_line 2 (omega arith) Anchors i, used_line 10 (omega arith) Anchors i, used_line 11 (omega arith) Anchors i) refl)

  check_4_same : check_4 ms ≡ check_4 ns
  check_4_same = rw (largest_line 6 (omega arith), largest_line 7 (omega arith), largest_line 12 (omega arith), largest_line 13 (omega arith)) refl

  none_over_same : none_over ms ≡ none_over ns
  unfolding none_over
  none_over_same =
      below_same line_count (λ k. line_within (nth ms k)) (λ k. line_within (nth ns k)) (λ k h. within_same (nth ms k) (nth ns k) (same k h))

  lines_same : (n : ℕ) → n ≤ line_count → of_lines ms n ≡ of_lines ns n
  lines_same zero h = refl
  lines_same (suc n) h =
      ap (λ (g : Option Governing). with_places g (suc n) (nth ms n) (nth ms n).places.count) (lines_same n (omega arith))
      ∙ all_places_same (nth ms n) (nth ns n) (same n (omega arith)) (of_lines ns n) (suc n)

  governing_same : governing ms ≡ governing ns
  unfolding governing
  governing_same = lines_same line_count (omega arith)

  verdict_same : verdict ms ≡ verdict ns
  verdict_same = rw (none_over_same, governing_same, check_1_same, check_2_same, check_3_same, check_4_same) refl

row_same : (m : Meaning) (r : Row) → RowOf m r → Same m (row_line r)
row_same m r is =
    record {
      kind = sym is.kind;
      count = sym is.count;
      each = λ i h.
          let e = is.figures i ∙ cond-true _ _ _ (lt-ltb i m.places.count h) in
          sym (ap (λ (s : Shown). utilised s.effect s.resistance) e);
    }

-- the verdict on the rows of a sheet's lines is the verdict on its lines
pub verdict_told : (ms : List Meaning) (rs : List Row) → ((k : ℕ) → k < line_count → RowOf (nth ms k) (get_or rs k no_row)) → verdict ms ≡ verdict (row_lines rs)
verdict_told ms rs are = verdict_same ms (row_lines rs) (λ k h. rw (nth_told rs k h) (row_same (nth ms k) (get_or rs k no_row) (are k h)))
