-- A byte string cut at its first separator.
use Rattle.std.proofs.Common.{◌≡◌, ℕ, zero, suc, ◌+◌, ◌<◌, ◌≤◌, eqb, List, [], ◌∷◌, ◌++◌, length, get_or, take, drop, Option, Some, None, Bor, sym, refl, ap, ◌∙◌, inl, inr, suc-le-suc, add-one, arith}
use Rattle.std.specs.List.{PartBy}
use Rattle.std.specs.Option.{option_map, unwrap_or}
use Rattle.std.proofs.lemmas.List.{take_all, take_rest}
use Rattle.std.proofs.lemmas.Bool.{eq-eqb, ne_eqb, cond-true, cond-false}
use Rattle.text_pieces.specs.Pieces.{onto, pieces, lines, words, words_after, FirstOf, CutAt}
use Rattle.text_pieces.proofs.Frees.{Free, without}

-- the same place, seen from the second byte on
tail : (mark c k : ℕ) (cs : List ℕ) → FirstOf mark (c ∷ cs) (suc k) → FirstOf mark cs k
tail mark c k cs f =
    record {
      within = let h = f.within in omega arith;
      before = λ j h. f.before (suc j) (suc-le-suc h);
      found = λ h. f.found (suc-le-suc h);
    }

-- the separator does not occur before its first place
free_front : (mark : ℕ) (bs : List ℕ) (k : ℕ) → FirstOf mark bs k → Free mark (take k bs)
free_front mark [] zero f = tt
free_front mark [] (suc k) f = tt
free_front mark (c ∷ cs) zero f = tt
free_front mark (c ∷ cs) (suc k) f = (f.before 0 (omega arith), free_front mark cs k (tail mark c k cs f))

joins : (mark : ℕ) (bs : List ℕ) (k : ℕ) → FirstOf mark bs k → k < length bs → bs ≡ take k bs ++ (mark ∷ drop (suc k) bs)
joins mark [] k f h = absurd (omega arith)
joins mark (c ∷ cs) zero f h = ap (λ (x : ℕ). x ∷ cs) (f.found h)
joins mark (c ∷ cs) (suc k) f h = ap (λ (xs : List ℕ). c ∷ xs) (joins mark cs k (tail mark c k cs f) (omega arith))

-- up to the first separator, and on after it
cut : (mark : ℕ) (end : List (List ℕ)) (bs : List ℕ) (k : ℕ) → FirstOf mark bs k → k < length bs → pieces mark end bs ≡ take k bs ∷ pieces mark end (drop (suc k) bs)
cut mark end [] k f h = absurd (omega arith)
cut mark end (c ∷ cs) zero f h = cond-true (eqb c mark) _ _ (eq-eqb c mark (f.found h))
cut mark end (c ∷ cs) (suc k) f h =
    let ih = cut mark end cs k (tail mark c k cs f) (omega arith) in
    cond-false (eqb c mark) ([] ∷ pieces mark end cs) (onto c (pieces mark end cs)) (ne_eqb c mark (f.before 0 (omega arith))) ∙ ap (onto c) ih

-- no separator: one piece
uncut : (mark : ℕ) (bs : List ℕ) → ((j : ℕ) → j < length bs → get_or bs j 0 ≡ mark → ⊥) → pieces mark ([] ∷ []) bs ≡ bs ∷ []
uncut mark [] h = refl
uncut mark (c ∷ cs) h =
    cond-false (eqb c mark) ([] ∷ pieces mark ([] ∷ []) cs) (onto c (pieces mark ([] ∷ []) cs)) (ne_eqb c mark (h 0 (omega arith))) ∙ ap (onto c) (uncut mark cs (λ j l. h (suc j) (suc-le-suc l)))

uncut_line : (mark c : ℕ) (cs : List ℕ) → ((j : ℕ) → j < length (c ∷ cs) → get_or (c ∷ cs) j 0 ≡ mark → ⊥) → pieces mark [] (c ∷ cs) ≡ (c ∷ cs) ∷ []
uncut_line mark c [] h = cond-false (eqb c mark) ([] ∷ []) ((c ∷ []) ∷ []) (ne_eqb c mark (h 0 (omega arith)))
uncut_line mark c (d ∷ ds) h =
    cond-false (eqb c mark) ([] ∷ pieces mark [] (d ∷ ds)) (onto c (pieces mark [] (d ∷ ds))) (ne_eqb c mark (h 0 (omega arith))) ∙ ap (onto c) (uncut_line mark d ds (λ j l. h (suc j) (suc-le-suc l)))

-- what follows the place k and its byte, where there is a byte
abbrev pub After : List ℕ → ℕ → Option (Bor (List ℕ)) → Type 0
After bs k r = PartBy (λ x. x.now) bs (k + 1) (length bs) r

-- the first line of a text that is not empty
pub first_line : (text : List ℕ) (k : ℕ) (r : Option (Bor (List ℕ))) (d : Bor (List ℕ)) → FirstOf 10 text k → After text k r → 0 < length text → d.now ≡ [] → lines text ≡ take k text ∷ lines (unwrap_or r d).now
unfolding lines
first_line [] k None d f p h e = absurd (omega arith)
first_line (c ∷ cs) k None d f p h e =
    let g : length (c ∷ cs) ≤ k = omega arith in
    uncut_line 10 c cs (λ j l. f.before j (omega arith)) ∙ ap (λ (l : List ℕ). l ∷ []) (sym (take_all k (c ∷ cs) g)) ∙ ap (λ (t : List ℕ). take k (c ∷ cs) ∷ pieces 10 [] t) (sym e)
first_line text k (Some x) d f p h e =
    let rest : x.now ≡ drop (k + 1) text = p.0.2 ∙ take_rest text (k + 1) in
    rw (rest, add-one) (cut 10 [] text k f (omega arith))

pub cut_at : (mark : ℕ) (bs : List ℕ) (k : ℕ) (r : Option (Bor (List ℕ))) (d : Bor (List ℕ)) → FirstOf mark bs k → After bs k r → d.now ≡ [] → CutAt mark bs (take k bs) (unwrap_or r d).now
cut_at mark bs k None d f p e =
    record { free = without mark (take k bs) (free_front mark bs k f); joined = inr (sym (take_all k bs (omega arith)), e) }
cut_at mark bs k (Some x) d f p e =
    let rest : x.now ≡ drop (k + 1) bs = p.0.2 ∙ take_rest bs (k + 1) in
    record { free = without mark (take k bs) (free_front mark bs k f); joined = inl (rw (rest, add-one) (joins mark bs k f (omega arith))) }

pub first_word : (line : List ℕ) (k : ℕ) (r : Option (Bor (List ℕ))) → FirstOf 32 line k → After line k r → words line ≡ take k line ∷ words_after (option_map (λ x. x.now) r)
unfolding words
first_word line k None f p =
    uncut 32 line (λ j l. f.before j (omega arith)) ∙ ap (λ (l : List ℕ). l ∷ []) (sym (take_all k line (omega arith)))
first_word line k (Some x) f p =
    let rest : x.now ≡ drop (k + 1) line = p.0.2 ∙ take_rest line (k + 1) in
    rw (rest, add-one) (cut 32 ([] ∷ []) line k f (omega arith))

pub no_lines : lines [] ≡ []
unfolding lines
no_lines = refl
