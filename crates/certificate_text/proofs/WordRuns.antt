-- One number or two among the words of a byte string: a numeral has no space.
use Rattle.std.proofs.Common.{◌≡◌, ℕ, ◌≤◌, Bool, true, false, cond, leb, List, [], ◌∷◌, Some, None, Option, sym, refl, ap, ◌∙◌, ⊎_elim, arith}
use Rattle.std.specs.Str.{bytes_eq}
use Rattle.std.proofs.lemmas.Slice.Eq.{bytes_eq-Decides}
use Rattle.std.proofs.lemmas.Bool.{leb-true, cond-true, cond-false, cases_Bool}
use Rattle.text_pieces.specs.Pieces.{words}
use Rattle.text_pieces.proofs.WordRuns.{Parted, splits, no_number}
use Rattle.certificate_text.specs.Lines.{after_name, at_most, bounded, one_number, two_numbers, both}

pub one_word : (most : ℕ) (bs : List ℕ) → one_number most (words bs) ≡ bounded most bs
one_word most bs =
    ⊎_elim
    (λ (e : words bs ≡ bs ∷ []). ap (one_number most) e)
    (λ (s : Parted bs (words bs)).
    let (k, h, e, p, q, qs, g) = s in
    ap (one_number most) g ∙ sym (ap (at_most most) (no_number bs k h e)))
    (splits bs)

both_none : (o : Option ℕ) → None ≡ both o None
both_none None = refl
both_none (Some n) = refl

pub two_words : (s bs : List ℕ) → two_numbers (s ∷ words bs) ≡ both (bounded 65535 s) (bounded 65535 bs)
two_words s bs =
    ⊎_elim
    (λ (e : words bs ≡ bs ∷ []). ap (λ (ws : List (List ℕ)). two_numbers (s ∷ ws)) e)
    (λ (t : Parted bs (words bs)).
    let (k, h, e, p, q, qs, g) = t in
    ap (λ (ws : List (List ℕ)). two_numbers (s ∷ ws)) g ∙ both_none (bounded 65535 s) ∙ sym (ap (λ (o : Option ℕ). both (bounded 65535 s) (at_most 65535 o)) (no_number bs k h e)))
    (splits bs)

-- the first word is the name
pub same_name : (name w : List ℕ) (ws : List (List ℕ)) → w ≡ name → after_name name (w ∷ ws) ≡ ws
same_name name w ws e = cond-true _ _ _ ((bytes_eq-Decides w name).1 e)

-- no word follows a line's only word
pub no_more : (name w : List ℕ) → after_name name (w ∷ []) ≡ []
no_more name w =
    ⊎_elim
    (λ (t : bytes_eq w name ≡ true). cond-true _ _ _ t)
    (λ (f : bytes_eq w name ≡ false). cond-false _ _ _ f)
    (cases_Bool (bytes_eq w name))

some_same : (m n : ℕ) → ◌≡◌ {A = Option ℕ} (Some m) (Some n) → m ≡ n
some_same m n e = cc

fits_at : (t : Bool) (most m n : ℕ) → leb m most ≡ t → cond t (Some m) None ≡ Some n → n ≤ most
fits_at true most m n h e = omega (arith, some_same m n e, leb-true m most h)
fits_at false most m n h e = let z : ◌≡◌ {A = ℕ} 0 1 = cc in absurd (omega arith)

-- a bounded number fits
pub fits : (most : ℕ) (o : Option ℕ) (n : ℕ) → at_most most o ≡ Some n → n ≤ most
fits most None n e = let z : ◌≡◌ {A = ℕ} 0 1 = cc in absurd (omega arith)
fits most (Some m) n e = fits_at (leb m most) most m n refl e
