-- The words of a byte string: one, or two and more with a space between. A numeral has no space.
use Rattle.std.proofs.Common.{◌≡◌, ℕ, zero, suc, ◌<◌, true, false, ◌&&◌, eqb, leb, ◌⊎◌, List, [], ◌∷◌, length, get_or, Some, None, sym, refl, ap, ◌∙◌, inl, inr, ⊎_elim, suc-le-suc, arith}
use Rattle.std.specs.List.{AllByRecursion}
use Rattle.std.proofs.lemmas.Bool.{lt-leb, and_left, and_right, eqb-true, eqb-false, cond-true, cond-false, cases_Bool}
use Rattle.text_pieces.specs.Numerals.{digits, numeral, read_on, number_in}
use Rattle.text_pieces.specs.Pieces.{onto, pieces, words, spaced, WordsOf}
use Rattle.text_pieces.proofs.Frees.{Free, without_each}

no_digits : (bs : List ℕ) (k : ℕ) → k < length bs → get_or bs k 0 ≡ 32 → digits bs ≡ false
no_digits [] k h e = absurd (omega arith)
no_digits (c ∷ cs) zero h e = and_left _ (digits cs) (and_left (leb 48 c) (leb c 57) (lt-leb 48 c (omega arith)))
no_digits (c ∷ cs) (suc k) h e = and_right (leb 48 c && leb c 57) _ (no_digits cs k (omega arith) e)

-- a space is no digit
pub no_number : (bs : List ℕ) (k : ℕ) → k < length bs → get_or bs k 0 ≡ 32 → number_in bs ≡ None
unfolding number_in
no_number bs k h e = cond-false (numeral bs) (Some (read_on 0 bs)) None (and_right (leb 1 (length bs) && leb (length bs) 9) _ (no_digits bs k h e))

-- there is a space, and so two words or more
abbrev pub Parted : List ℕ → List (List ℕ) → Type 0
Parted bs ws = (k : ℕ) × (k < length bs) × (get_or bs k 0 ≡ 32) × (p : List ℕ) × (q : List ℕ) × (qs : List (List ℕ)) × (ws ≡ p ∷ q ∷ qs)

-- the words of a byte string, seen at once: there is always one
record Split (bs : List ℕ) : Type 0 where
  first : List ℕ
  others : List (List ℕ)
  are : pieces 32 ([] ∷ []) bs ≡ first ∷ others
  joined : spaced (first ∷ others) ≡ bs
  free : AllByRecursion (Free 32) (first ∷ others)

split : (bs : List ℕ) → Split bs
split [] = record { first = []; others = []; are = refl; joined = refl; free = (tt, tt) }
split (c ∷ cs) =
    let s = split cs in
    ⊎_elim
    (λ (t : eqb c 32 ≡ true).
    record {
      first = [];
      others = s.first ∷ s.others;
      are = cond-true (eqb c 32) _ _ t ∙ ap (λ (ws : List (List ℕ)). [] ∷ ws) s.are;
      joined = ap (λ (xs : List ℕ). 32 ∷ xs) s.joined ∙ ap (λ (x : ℕ). x ∷ cs) (sym (eqb-true c 32 t));
      free = (tt, s.free);
    })
    (λ (f : eqb c 32 ≡ false).
    record {
      first = c ∷ s.first;
      others = s.others;
      are = cond-false (eqb c 32) _ _ f ∙ ap (onto c) s.are;
      joined = ap (λ (xs : List ℕ). c ∷ xs) s.joined;
      free = ((eqb-false c 32 f, s.free.0), s.free.1);
    })
    (cases_Bool (eqb c 32))

pub some_word : (bs : List ℕ) → (p : List ℕ) × (ps : List (List ℕ)) × (words bs ≡ p ∷ ps)
unfolding words
some_word bs = let s = split bs in (s.first, s.others, s.are)

splits_at : (bs : List ℕ) → (pieces 32 ([] ∷ []) bs ≡ bs ∷ []) ⊎ Parted bs (pieces 32 ([] ∷ []) bs)
splits_at [] = inl refl
splits_at (c ∷ cs) =
    ⊎_elim
    (λ (t : eqb c 32 ≡ true).
    let s = split cs in
    inr (0, omega arith, eqb-true c 32 t, [], s.first, s.others, cond-true _ _ _ t ∙ ap (λ (ws : List (List ℕ)). [] ∷ ws) s.are))
    (λ (f : eqb c 32 ≡ false).
    ⊎_elim
    (λ (e : pieces 32 ([] ∷ []) cs ≡ cs ∷ []). inl (cond-false _ _ _ f ∙ ap (onto c) e))
    (λ (s : Parted cs (pieces 32 ([] ∷ []) cs)).
    let (k, h, e, p, q, qs, g) = s in
    inr (suc k, suc-le-suc h, e, c ∷ p, q, qs, cond-false _ _ _ f ∙ ap (onto c) g))
    (splits_at cs))
    (cases_Bool (eqb c 32))

-- one word, or a space and two words or more
pub splits : (bs : List ℕ) → (words bs ≡ bs ∷ []) ⊎ Parted bs (words bs)
unfolding words
splits bs = splits_at bs

-- the words of a line, joined again
pub words_of : (line : List ℕ) → WordsOf line (words line)
unfolding words
words_of line =
    let s = split line in
    rw s.are (record { free = without_each 32 (s.first ∷ s.others) s.free; joined = s.joined })
