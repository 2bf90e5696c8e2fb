-- A text whose parts are read one after the other.
use Rattle.std.proofs.Common.{◌≡◌, ℕ, zero, suc, ◌+◌, ◌<◌, ◌≤◌, Bool, true, false, cond, ◌&&◌, eqb, leb, List, [], ◌∷◌, length, get_or, drop, Some, None, Ok, Err, codes, Option, sym, refl, ap, ◌∙◌, subst, arith}
use Rattle.std.proofs.lemmas.List.{drop-drop, length-drop, nil_from_length}
use Rattle.std.proofs.lemmas.Bool.{eq-eqb, ne_eqb, le-leb, lt-leb, and_from, and_left, and_right, cond-true, cond-false}
use Rattle.certificate.specs.Content.{Content}
use Rattle.certificate.specs.declared.fields.Geometry.{Geometry}
use Rattle.certificate.specs.declared.fields.CharacteristicValues.{CharacteristicValues}
use Rattle.certificate.specs.declared.fields.PartialFactors.{PartialFactors}
use Rattle.certificate.specs.declared.fields.StrengthFactor.{StrengthFactor}
use Rattle.certificate_text.specs.Names.{Field, table, fields, edition, Fitting}
use Rattle.text_pieces.specs.Pieces.{onto, pieces, lines, words}
use Rattle.text_pieces.specs.Numerals.{number_in}
use Rattle.certificate_text.specs.declared.fault.TextFault.{TextFault}
use Rattle.certificate_text.specs.declared.fault.TextFault.TheVariants.{Line, Memory}
use Rattle.certificate_text.specs.Lines.{one_number, after_name, field_line, next}
use Rattle.certificate_text.specs.Fronts.{understood_then, front_fields, front_entries, AllRead, Fixed, Listed}
use Rattle.certificate_text.specs.Content.{geometry_from, values_from, factors_from, content_from}
use Rattle.certificate_text.specs.Parsed.{numbers_read, cracked_read, uncracked_read, understood, parsed, Parses}
use Rattle.text_pieces.proofs.Cuts.{no_lines}
use Rattle.certificate_text.proofs.WordRuns.{fits}

some_onto : (c : ℕ) (ps : List (List ℕ)) → 0 < length (onto c ps)
some_onto c [] = omega arith
some_onto c (p ∷ ps) = omega arith

some_at : (t : Bool) (c : ℕ) (ps : List (List ℕ)) → 0 < length (cond t ([] ∷ ps) (onto c ps))
some_at true c ps = omega arith
some_at false c ps = some_onto c ps

-- a text that is not empty has a line
some_line : (text : List ℕ) → 0 < length text → 0 < length (lines text)
unfolding lines
some_line [] h = absurd (omega arith)
some_line (c ∷ cs) h = some_at (eqb c 10) c (pieces 10 [] cs)

-- the fixed lines are not all understood
pub parsed_short : (text : List ℕ) (n : ℕ) → n ≡ length (front_fields fields (lines text)) + 1 → n ≤ 32 → parsed text ≡ Err n
unfolding parsed understood numbers_read
parsed_short text n e h =
    let short : (length (numbers_read text) ≡ 32 → ⊥) = λ z. omega arith in
    let u : understood text ≡ length (numbers_read text) = cond-false _ _ _ (ne_eqb (length (numbers_read text)) 32 short) in
    let no : (leb 32 (understood text) && leb (length (lines text)) (understood text)) ≡ false = and_left _ _ (lt-leb 32 (understood text) (omega arith)) in
    let r : Err (understood text + 1) ≡ Err n = ap Err (omega arith) in
    cond-false _ _ _ no ∙ r

module _
    (text after₁ after₂ after₃ numbers : List ℕ) (cr un : List StrengthFactor) (m n : ℕ)
    (nv : numbers ≡ front_fields fields (lines text)) (np : lines after₁ ≡ drop 32 (lines text))
    (crv : cr ≡ front_entries (codes "cracked") (lines after₁)) (crp : lines after₂ ≡ drop m (lines after₁)) (crn : m ≡ length cr)
    (unv : un ≡ front_entries (codes "uncracked") (lines after₂))
  where
    numbers_is : numbers ≡ numbers_read text
    unfolding numbers_read
    numbers_is = nv

    cracked_is : cr ≡ cracked_read text
    unfolding cracked_read
    cracked_is = crv ∙ ap (front_entries (codes "cracked")) np

    second : lines after₂ ≡ drop (32 + m) (lines text)
    second = crp ∙ ap (drop m) np ∙ drop-drop m 32 (lines text)

    uncracked_is : un ≡ uncracked_read text
    unfolding uncracked_read
    uncracked_is =
        let e : m ≡ length (cracked_read text) = crn ∙ ap length cracked_is in
        unv ∙ ap (front_entries (codes "uncracked")) (second ∙ ap (λ (k : ℕ). drop (32 + k) (lines text)) e)

    third : lines after₃ ≡ drop n (lines after₂) → lines after₃ ≡ drop (32 + m + n) (lines text)
    third unp = unp ∙ ap (drop n) second ∙ drop-drop n (32 + m) (lines text)

    understood_is : length numbers ≡ 32 → n ≡ length un → understood text ≡ 32 + m + n
    unfolding understood
    understood_is full unn =
        let z : length (numbers_read text) ≡ 32 = sym (ap length numbers_is) ∙ full in
        cond-true _ _ _ (eq-eqb (length (numbers_read text)) 32 z) ∙ omega (arith, ap length cracked_is, ap length uncracked_is, crn, unn)

    content_is : content_from numbers cr un ≡ content_from (numbers_read text) (cracked_read text) (uncracked_read text)
    content_is =
        ap (λ (ns : List ℕ). content_from ns cr un) numbers_is
        ∙ ap (λ (xs : List StrengthFactor). content_from (numbers_read text) xs un) cracked_is
        ∙ ap (λ (xs : List StrengthFactor). content_from (numbers_read text) (cracked_read text) xs) uncracked_is

    pub parsed_whole : length numbers ≡ 32 → lines after₃ ≡ drop n (lines after₂) → n ≡ length un → length after₃ ≡ 0 → parsed text ≡ Ok (content_from numbers cr un)
    unfolding parsed
    parsed_whole full unp unn h =
        let z : lines after₃ ≡ [] = ap lines (nil_from_length after₃ h) ∙ no_lines in
        let e : length (lines text) ≤ 32 + m + n = omega (arith, ap length (sym (third unp) ∙ z), length-drop (32 + m + n) (lines text)) in
        let u = understood_is full unn in
        cond-true _ _ _ (and_from _ _ (le-leb 32 (understood text) (omega arith)) (le-leb (length (lines text)) (understood text) (omega arith))) ∙ ap Ok (sym content_is)

    pub parsed_left : length numbers ≡ 32 → lines after₃ ≡ drop n (lines after₂) → n ≡ length un → 0 < length after₃ → parsed text ≡ Err (32 + m + n + 1)
    unfolding parsed
    parsed_left full unp unn h =
        let e : 32 + m + n < length (lines text) = omega (arith, some_line after₃ h, ap length (third unp), length-drop (32 + m + n) (lines text)) in
        let u = understood_is full unn in
        cond-false _ _ _ (and_right (leb 32 (understood text)) _ (lt-leb (length (lines text)) (understood text) (omega arith))) ∙ ap (λ (k : ℕ). Err (k + 1)) u

-- a field's number fits the field
one_fits : (most : ℕ) (ws : List (List ℕ)) (n : ℕ) → one_number most ws ≡ Some n → n ≤ most
one_fits most [] n e = let z : ◌≡◌ {A = ℕ} 0 1 = cc in absurd (omega arith)
one_fits most (w ∷ []) n e = fits most (number_in w) n e
one_fits most (w ∷ v ∷ ws) n e = let z : ◌≡◌ {A = ℕ} 0 1 = cc in absurd (omega arith)

next_fits : (f : Field) (ls : List (List ℕ)) (n : ℕ) → next (field_line f) ls ≡ Some n → n ≤ f.most
unfolding field_line
next_fits f [] n e = let z : ◌≡◌ {A = ℕ} 0 1 = cc in absurd (omega arith)
next_fits f (l ∷ ls) n e = one_fits f.most (after_name f.name (words l)) n e

fits_then : (o : Option ℕ) (rest : List ℕ) (f : Field) (fs : List Field) (k : ℕ) → ((n : ℕ) → o ≡ Some n → n ≤ f.most) → ((j : ℕ) → get_or rest j 0 ≤ (get_or fs j edition).most) → get_or (understood_then o rest) k 0 ≤ (get_or (f ∷ fs) k edition).most
fits_then None rest f fs k h g = omega arith
fits_then (Some n) rest f fs zero h g = h n refl
fits_then (Some n) rest f fs (suc k) h g = g k

front_fits : (fs : List Field) (ls : List (List ℕ)) (k : ℕ) → get_or (front_fields fs ls) k 0 ≤ (get_or fs k edition).most
front_fits [] ls k = omega arith
front_fits (f ∷ fs) ls k = fits_then (next (field_line f) ls) (front_fields fs (drop 1 ls)) f fs k (next_fits f ls) (front_fits fs (drop 1 ls))

-- all numbers that are read fit
pub fitting : (text numbers : List ℕ) → numbers ≡ front_fields fields (lines text) → Fitting numbers
unfolding fields
fitting text numbers e = λ k h. subst (λ (ns : List ℕ). get_or ns k 0 ≤ (get_or table k edition).most) (sym e) (front_fits table (lines text) k)

-- the fault of the fixed lines
pub fixed_fault : (text after : List ℕ) (e : TextFault) → Fixed text after (Err e) → Parses text (Err e)
fixed_fault text after (Line n) h = parsed_short text n h.0 h.1
fixed_fault text after Memory h = absurd h

-- no memory for the list of cracked concrete
pub cracked_fault : (text after₁ after₂ numbers : List ℕ) (e : TextFault) → AllRead text after₁ numbers → Listed (codes "cracked") after₁ after₂ (Err e) → Parses text (Err e)
unfolding cracked_read
cracked_fault text after₁ after₂ numbers (Line n) all h = absurd h
cracked_fault text after₁ after₂ numbers Memory all h = omega (arith, ap (λ (ls : List (List ℕ)). length (front_entries (codes "cracked") ls)) all.past)

-- no memory for the list of uncracked concrete
pub uncracked_fault : (text after₁ after₂ after₃ numbers : List ℕ) (cr : List StrengthFactor) (m : ℕ) (e : TextFault) → AllRead text after₁ numbers → cr ≡ front_entries (codes "cracked") (lines after₁) → lines after₂ ≡ drop m (lines after₁) → m ≡ length cr → Listed (codes "uncracked") after₂ after₃ (Err e) → Parses text (Err e)
uncracked_fault text after₁ after₂ after₃ numbers cr m (Line n) all crv crp crn h = absurd h
uncracked_fault text after₁ after₂ after₃ numbers cr m Memory all crv crp crn h =
    let un = front_entries (codes "uncracked") (lines after₂) in
    let e = uncracked_is text after₁ after₂ after₂ numbers cr un m 0 all.values all.past crv crp crn refl in
    omega (arith, ap length e)

-- a content whose parts are those of the numbers
pub content_same : (ns : List ℕ) (g : Geometry) (v : CharacteristicValues) (f : PartialFactors) (cr un : List StrengthFactor) → g ≡ geometry_from ns → v ≡ values_from ns → f ≡ factors_from ns → content_from ns cr un ≡ record { edition = get_or ns 0 0; geometry = g; values = v; factors = f; cracked = cr; uncracked = un }
content_same ns g v f cr un a b d =
    let made : Geometry → CharacteristicValues → PartialFactors → Content = λ x y z. record { edition = get_or ns 0 0; geometry = x; values = y; factors = z; cracked = cr; uncracked = un } in
    ap (λ (x : Geometry). made x (values_from ns) (factors_from ns)) (sym a) ∙ ap (λ (y : CharacteristicValues). made g y (factors_from ns)) (sym b) ∙ ap (made g v) (sym d)
