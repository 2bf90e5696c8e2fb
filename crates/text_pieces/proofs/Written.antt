-- What is written reads back: decimal numbers, and pieces each with its mark.
use Rattle.std.proofs.Common.{◌≡◌, ℕ, ◌^◌, ◌<◌, ◌≤◌, Bool, true, ◌&&◌, eqb, ltb, leb, List, [], ◌∷◌, ◌++◌, length, Some, None, decimal, refl, ap, ◌∙◌, arith, rules}
use Rattle.std.specs.List.{AllByRecursion}
use Rattle.std.proofs.lemmas.List.{append-nil}
use Rattle.std.proofs.lemmas.Str.Parse.{IsNumeralModel, numerals_by_fold}
use Rattle.std.proofs.lemmas.Fmt.{digits_decimal, digits_value-decimal, length-decimal-le, decimal_nonempty}
use Rattle.std.proofs.lemmas.Option.{cond_some}
use Rattle.std.proofs.lemmas.Bool.{eq-eqb, ne_eqb, le-leb, leb-true, ltb-true, and_from, and_parts, cond-true, cond-false}
use Rattle.text_pieces.specs.Numerals.{digits, read_on, numeral, number_in}
use Rattle.text_pieces.specs.Pieces.{onto, pieces, lines, words, after_spaces}
use Rattle.text_pieces.proofs.Frees.{Free}

-- digits and a numeral's value, in the library's words
own : IsNumeralModel (λ ds. digits ds ≡ true) (read_on 0)
own = numerals_by_fold (λ ds. digits ds ≡ true) (search rules) read_on (search rules)

pub decimal_back : (n : ℕ) → n < 1000000000 → number_in (decimal n) ≡ Some n
unfolding number_in
decimal_back n h =
    let g : n < 2 ^ 64 = omega arith in
    let some = decimal_nonempty n g in
    let short = length-decimal-le 9 n (omega arith) (omega arith) g in
    cond-true (numeral (decimal n)) (Some (read_on 0 (decimal n))) None (and_from _ _ (and_from _ _ (le-leb 1 (length (decimal n)) some) (le-leb (length (decimal n)) 9 short)) (digits_decimal own n g)) ∙ ap Some (digits_value-decimal own n g)

-- every byte is past the space
abbrev pub plain : List ℕ → Bool
plain [] = true
plain (c ∷ cs) = ltb 32 c && plain cs

pub free_plain : (mark : ℕ) (w : List ℕ) → mark ≤ 32 → plain w ≡ true → Free mark w
free_plain mark [] h e = tt
free_plain mark (c ∷ cs) h e = let p = and_parts (ltb 32 c) (plain cs) e in ((λ z. omega (arith, ltb-true 32 c p.0)), free_plain mark cs h p.1)

pub free_digits : (mark : ℕ) (w : List ℕ) → mark ≤ 32 → digits w ≡ true → Free mark w
free_digits mark [] h e = tt
free_digits mark (c ∷ cs) h e =
    let p = and_parts (leb 48 c && leb c 57) (digits cs) e in
    let q = and_parts (leb 48 c) (leb c 57) p.0 in
    ((λ z. omega (arith, leb-true 48 c q.0)), free_digits mark cs h p.1)

pub free_append : (mark : ℕ) (xs ys : List ℕ) → Free mark xs → Free mark ys → Free mark (xs ++ ys)
free_append mark [] ys h g = g
free_append mark (x ∷ xs) ys (h, t) g = (h, free_append mark xs ys t g)

pub free_decimal : (mark n : ℕ) → mark ≤ 32 → n < 1000000000 → Free mark (decimal n)
free_decimal mark n h g = free_digits mark (decimal n) h (digits_decimal own n (omega arith))

-- a piece and its mark
ended : (mark : ℕ) (end : List (List ℕ)) (w rest : List ℕ) → Free mark w → pieces mark end (w ++ (mark ∷ rest)) ≡ w ∷ pieces mark end rest
ended mark end [] rest h = cond-true (eqb mark mark) _ _ (eq-eqb mark mark refl)
ended mark end (c ∷ w) rest (h, t) = cond-false (eqb c mark) _ _ (ne_eqb c mark h) ∙ ap (onto c) (ended mark end w rest t)

pub line_ended : (w rest : List ℕ) → Free 10 w → lines (w ++ (10 ∷ rest)) ≡ w ∷ lines rest
unfolding lines
line_ended w rest h = ended 10 [] w rest h

pub word_ended : (w rest : List ℕ) → Free 32 w → words (w ++ (32 ∷ rest)) ≡ w ∷ words rest
unfolding words
word_ended w rest h = ended 32 ([] ∷ []) w rest h

one_word : (w : List ℕ) → Free 32 w → pieces 32 ([] ∷ []) w ≡ w ∷ []
one_word [] h = refl
one_word (c ∷ cs) (h, t) = cond-false (eqb c 32) _ _ (ne_eqb c 32 h) ∙ ap (onto c) (one_word cs t)

pub only_word : (w : List ℕ) → Free 32 w → words w ≡ w ∷ []
unfolding words
only_word w h = one_word w h

-- words with single spaces between
pub words_spaced : (w : List ℕ) (ws : List (List ℕ)) → Free 32 w → AllByRecursion (Free 32) ws → words (w ++ after_spaces ws) ≡ w ∷ ws
words_spaced w [] h g = ap words (append-nil w) ∙ only_word w h
words_spaced w (v ∷ ws) h (g, t) = word_ended w (v ++ after_spaces ws) h ∙ ap (λ (vs : List (List ℕ)). w ∷ vs) (words_spaced v ws g t)

-- a number has no space
pub free_number : (w : List ℕ) (n : ℕ) → number_in w ≡ Some n → Free 32 w
unfolding number_in
free_number w n e =
    let t = cond_some (numeral w) (read_on 0 w) n e in
    free_digits 32 w (omega arith) (and_parts (leb 1 (length w) && leb (length w) 9) (digits w) t.0).1
