-- The place that the walk finds governs.
use Rattle.std.proofs.Common.{◌≡◌, ℕ, zero, suc, ◌-◌, ◌<◌, ◌≤◌, ltb, ◌⊎◌, List, Some, None, Option, refl, ap, ◌∙◌, subst, inl, inr, arith}
use Rattle.std.proofs.lemmas.Bool.{cases_eq, cases_lt, cond_both, ltb-true, ltb-false}
use Rattle.failure.specs.Meanings.{Meaning}
use Rattle.verdict.specs.Lines.{line_count, nth, line}
use Rattle.verdict.specs.Utilisations.{utilisation}
use Rattle.verdict.specs.Governing.{Before, Governs, larger, with_places, of_lines, governing}
use Rattle.verdict.specs.declared.answer.Governing.{Governing}

-- the walk has passed the first n lines, and p places of the next
abbrev Seen : ℕ → ℕ → ℕ → ℕ → Type 0
Seen n p j i = (j < n) ⊎ ((j ≡ n) × (i < p))

module _ (ms : List Meaning) where
  abbrev at : ℕ → ℕ → ℕ
  at j i = utilisation (nth ms j) i

  abbrev There : ℕ → ℕ → Type 0
  There j i = i < (nth ms j).places.count

  record FoundSoFar (n p : ℕ) (g : Governing) : Type 0 where
    line_low : 1 ≤ g.line
    place_low : 1 ≤ g.place
    seen : Seen n p (g.line - 1) (g.place - 1)
    there : There (g.line - 1) (g.place - 1)
    has_it : at (g.line - 1) (g.place - 1) ≡ g.utilisation
    none_larger : (j i : ℕ) → Seen n p j i → There j i → at j i ≤ g.utilisation
    earlier_less : (j i : ℕ) → Before j i g.line g.place → There j i → at j i < g.utilisation

  abbrev NoneSoFar : ℕ → ℕ → Type 0
  NoneSoFar n p = (j i : ℕ) → Seen n p j i → There j i → ⊥

  abbrev SoFar : ℕ → ℕ → Option Governing → Type 0
  SoFar n p None = NoneSoFar n p
  SoFar n p (Some g) = FoundSoFar n p g

  -- one place more
  module _ (n p : ℕ) (here : There n p) where
    abbrev new : Governing
    new = record { utilisation = at n p; line = suc n; place = suc p }

    back : (P : ℕ → ℕ → Type 0) → P n p → P (suc n - 1) (suc p - 1)
    back P h =
        let a : n ≡ suc n - 1 = omega arith in
        let b : p ≡ suc p - 1 = omega arith in
        subst (λ (v : ℕ). P v (suc p - 1)) a (subst (λ (v : ℕ). P n v) b h)

    -- what was seen before, or the new place
    last : (j i : ℕ) → Seen n (suc p) j i → Seen n p j i ⊎ (at j i ≡ at n p)
    last j i (inl before) = inl (inl before)
    last j i (inr (same, inside)) =
        elim (cases_eq i p) [
          | inl is ↦ inr (ap (λ (v : ℕ). at v i) same ∙ ap (λ (v : ℕ). at n v) is)
          | inr other ↦ inl (inr (same, omega arith))
        ]

    before_new : (j i : ℕ) → Before j i (suc n) (suc p) → Seen n p j i
    before_new j i (inl line) = inl (omega arith)
    before_new j i (inr (line, place)) = inr (omega arith, omega arith)

    wider : (j i : ℕ) → Seen n p j i → Seen n (suc p) j i
    wider j i (inl line) = inl line
    wider j i (inr (line, place)) = inr (line, omega arith)

    take : ((j i : ℕ) → Seen n p j i → There j i → at j i < at n p) → FoundSoFar n (suc p) new
    take less =
        record {
          line_low = omega arith;
          place_low = omega arith;
          seen = back (Seen n (suc p)) (inr (refl, omega arith));
          there = back There here;
          has_it = back (λ j i. at j i ≡ at n p) refl;
          none_larger = λ j i s t. elim (last j i s) [ inl old ↦ omega (arith, less j i old t) | inr same ↦ omega (arith, same) ];
          earlier_less = λ j i b t. less j i (before_new j i b) t;
        }

    keep : (g : Governing) → at n p ≤ g.utilisation → FoundSoFar n p g → FoundSoFar n (suc p) g
    keep g most f =
        record {
          line_low = f.line_low;
          place_low = f.place_low;
          seen = wider _ _ f.seen;
          there = f.there;
          has_it = f.has_it;
          none_larger = λ j i s t. elim (last j i s) [ inl old ↦ f.none_larger j i old t | inr same ↦ omega (arith, same) ];
          earlier_less = f.earlier_less;
        }

    one_more : (g : Option Governing) → SoFar n p g → FoundSoFar n (suc p) (larger g new)
    one_more None none = take (λ j i s t. absurd (none j i s t))
    one_more (Some g) f =
        cond_both (ltb g.utilisation (at n p)) new g (FoundSoFar n (suc p))
        (λ e. let less = ltb-true g.utilisation (at n p) e in take (λ j i s t. omega (arith, f.none_larger j i s t)))
        (λ e. keep g (ltb-false g.utilisation (at n p) e) f)

  -- the places of a line, and on to the next
  places : (n p : ℕ) → p ≤ (nth ms n).places.count → (g : Option Governing) → SoFar n 0 g → SoFar n p (with_places g (suc n) (nth ms n) p)
  places n zero inside g so = so
  places n (suc p) inside g so =
      one_more n p (omega arith) (with_places g (suc n) (nth ms n) p) (places n p (omega arith) g so)

  module _ (n : ℕ) where
    whole : (j i : ℕ) → Seen (suc n) 0 j i → There j i → Seen n (nth ms n).places.count j i
    whole j i (inl line) t =
        elim (cases_eq j n) [ inl is ↦ inr (is, subst (λ (v : ℕ). There v i) is t) | inr other ↦ inl (omega arith) ]
    whole j i (inr (line, place)) t = absurd (omega arith)

    part : (p j i : ℕ) → Seen n p j i → Seen (suc n) 0 j i
    part p j i (inl line) = inl (omega arith)
    part p j i (inr (line, place)) = inl (omega arith)

    next_line : (g : Option Governing) → SoFar n (nth ms n).places.count g → SoFar (suc n) 0 g
    next_line None none = λ j i s t. none j i (whole j i s t) t
    next_line (Some g) f =
        record {
          line_low = f.line_low;
          place_low = f.place_low;
          seen = part _ _ _ f.seen;
          there = f.there;
          has_it = f.has_it;
          none_larger = λ j i s t. f.none_larger j i (whole j i s t) t;
          earlier_less = f.earlier_less;
        }

  lines : (n : ℕ) → SoFar n 0 (of_lines ms n)
  lines zero = λ j i s t. elim s [ inl line ↦ omega arith | inr both ↦ omega arith ]
  lines (suc n) = next_line n _ (places n (nth ms n).places.count (omega arith) (of_lines ms n) (lines n))

  done : (n : ℕ) (g : Option Governing) → SoFar n 0 g → Governs ms n g
  done n None none =
      record { none = λ j h. elim (cases_lt 0 (nth ms j).places.count) [ inl some ↦ absurd (none j 0 (inl h) some) | inr fine ↦ omega arith ] }
  done n (Some g) f =
      let high : g.line ≤ n = elim f.seen [ inl line ↦ omega (arith, f.line_low) | inr both ↦ absurd (omega arith) ] in
      record {
        line_low = f.line_low;
        line_high = high;
        place_low = f.place_low;
        place_high = omega (arith, f.there, f.place_low);
        has_it = f.has_it;
        none_larger = λ j i h t. f.none_larger j i (inl h) t;
        earlier_less = f.earlier_less;
      }

pub governed : (ms : List Meaning) → Governs ms line_count (governing ms)
unfolding governing
governed ms = done ms line_count (of_lines ms line_count) (lines ms line_count)
