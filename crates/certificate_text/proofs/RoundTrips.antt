-- What is printed parses back.
use Rattle.std.proofs.Common.{◌≡◌, ℕ, suc, ◌<◌, ◌≤◌, true, leb, List, [], ◌∷◌, ◌++◌, length, drop, Some, None, Ok, codes, decimal, Option, sym, refl, ap, ◌∙◌, arith}
use Rattle.std.specs.List.{AllByRecursion}
use Rattle.std.proofs.lemmas.List.{append_assoc, append-nil}
use Rattle.std.proofs.lemmas.Bool.{le-leb, cond-true}
use Rattle.certificate.specs.declared.fields.StrengthFactor.{StrengthFactor}
use Rattle.certificate.specs.Content.{Content}
use Rattle.certificate_text.specs.Names.{Field, table, fields}
use Rattle.certificate_text.specs.Parsed.{parsed}
use Rattle.text_pieces.specs.Pieces.{lines, words}
use Rattle.certificate_text.specs.Lines.{after_name, at_most, bounded, one_number, two_numbers, both, field_line, entry_line}
use Rattle.certificate_text.specs.Fronts.{understood_then, front_fields, front_entries}
use Rattle.certificate_text.specs.Printed.{field_text, entry_text, fields_text, list_text, numbers_from, text_of}
use Rattle.text_pieces.proofs.Cuts.{no_lines}
use Rattle.text_pieces.proofs.Written.{decimal_back, plain, free_plain, free_append, free_decimal, line_ended, word_ended}
use Rattle.certificate_text.proofs.TextRuns.{parsed_whole}
use Rattle.certificate_text.proofs.WordRuns.{one_word, two_words, same_name}

pub bounded_back : (most n : ℕ) → n ≤ most → n < 1000000000 → bounded most (decimal n) ≡ Some n
bounded_back most n l h = ap (at_most most) (decimal_back n h) ∙ cond-true (leb n most) (Some n) None (le-leb n most l)

-- a space is no line feed
not_feed : ◌≡◌ {A = ℕ} 32 10 → ⊥
not_feed z = omega arith

-- the lines without their line feeds
abbrev field_words : List ℕ → ℕ → List ℕ
field_words name n = name ++ (32 ∷ decimal n)

abbrev entry_words : List ℕ → StrengthFactor → List ℕ
entry_words name e = name ++ (32 ∷ (decimal e.strength ++ (32 ∷ decimal e.factor)))

pub record Small (e : StrengthFactor) : Type 0 where
  pub strength : e.strength ≤ 65535
  pub factor : e.factor ≤ 65535

field_lines : (name : List ℕ) (n : ℕ) (rest : List ℕ) → plain name ≡ true → n < 1000000000 → lines (field_text name n ++ rest) ≡ field_words name n ∷ lines rest
field_lines name n rest p h =
    let e : field_text name n ++ rest ≡ field_words name n ++ (10 ∷ rest) = simp append_assoc in
    ap lines e ∙ line_ended (field_words name n) rest (free_append 10 name (32 ∷ decimal n) (free_plain 10 name (omega arith) p) (not_feed, free_decimal 10 n (omega arith) h))

entry_lines : (name : List ℕ) (x : StrengthFactor) (rest : List ℕ) → plain name ≡ true → Small x → lines (entry_text name x ++ rest) ≡ entry_words name x ∷ lines rest
entry_lines name x rest p s =
    let e : entry_text name x ++ rest ≡ entry_words name x ++ (10 ∷ rest) = simp append_assoc in
    let a = s.strength in
    let b = s.factor in
    ap lines e
    ∙ line_ended (entry_words name x) rest (free_append 10 name _ (free_plain 10 name (omega arith) p) (not_feed, free_append 10 (decimal x.strength) (32 ∷ decimal x.factor) (free_decimal 10 x.strength (omega arith) (omega arith)) (not_feed, free_decimal 10 x.factor (omega arith) (omega arith))))

field_back : (f : Field) (n : ℕ) → plain f.name ≡ true → n ≤ f.most → n < 1000000000 → field_line f (field_words f.name n) ≡ Some n
unfolding field_line
field_back f n p l h =
    ap (λ (ws : List (List ℕ)). one_number f.most (after_name f.name ws)) (word_ended f.name (decimal n) (free_plain 32 f.name (omega arith) p))
    ∙ ap (one_number f.most) (same_name f.name f.name (words (decimal n)) refl)
    ∙ one_word f.most (decimal n)
    ∙ bounded_back f.most n l h

entry_back : (name : List ℕ) (x : StrengthFactor) → plain name ≡ true → Small x → entry_line name (entry_words name x) ≡ Some x
unfolding entry_line
entry_back name x p s =
    let a = s.strength in
    let b = s.factor in
    let i : (bounded 65535 (decimal x.strength) ≡ Some x.strength) = bounded_back 65535 x.strength a (omega arith) in
    let j : (bounded 65535 (decimal x.factor) ≡ Some x.factor) = bounded_back 65535 x.factor b (omega arith) in
    ap (λ (ws : List (List ℕ)). two_numbers (after_name name ws)) (word_ended name (decimal x.strength ++ (32 ∷ decimal x.factor)) (free_plain 32 name (omega arith) p))
    ∙ ap two_numbers (same_name name name (words (decimal x.strength ++ (32 ∷ decimal x.factor))) refl)
    ∙ ap two_numbers (word_ended (decimal x.strength) (decimal x.factor) (free_decimal 32 x.strength (omega arith) (omega arith)))
    ∙ two_words (decimal x.strength) (decimal x.factor)
    ∙ ap (λ (o : Option ℕ). both o (bounded 65535 (decimal x.factor))) i
    ∙ ap (both (Some x.strength)) j

-- a number for each field, which fits it
abbrev pub Good : List Field → List ℕ → Type 0
Good [] [] = Unit {0}
Good [] (n ∷ ns) = ⊥
Good (f ∷ fs) [] = ⊥
Good (f ∷ fs) (n ∷ ns) = (plain f.name ≡ true) × (n ≤ f.most) × (n < 1000000000) × Good fs ns

pub fields_back : (fs : List Field) (ns rest : List ℕ) → Good fs ns → (front_fields fs (lines (fields_text fs ns ++ rest)) ≡ ns) × (drop (length fs) (lines (fields_text fs ns ++ rest)) ≡ lines rest)
fields_back [] [] rest g = (refl, refl)
fields_back [] (n ∷ ns) rest g = absurd g
fields_back (f ∷ fs) [] rest g = absurd g
fields_back (f ∷ fs) (n ∷ ns) rest (p, l, h, g) =
    let ih = fields_back fs ns rest g in
    let e : lines (fields_text (f ∷ fs) (n ∷ ns) ++ rest) ≡ field_words f.name n ∷ lines (fields_text fs ns ++ rest) = ap lines (append_assoc (field_text f.name n) (fields_text fs ns) rest) ∙ field_lines f.name n (fields_text fs ns ++ rest) p h in
    (ap (front_fields (f ∷ fs)) e ∙ ap (λ (o : Option ℕ). understood_then o (front_fields fs (lines (fields_text fs ns ++ rest)))) (field_back f n p l h) ∙ ap (λ (ms : List ℕ). n ∷ ms) ih.0, ap (drop (suc (length fs))) e ∙ ih.1)

pub entries_back : (name : List ℕ) (es : List StrengthFactor) (rest : List ℕ) → plain name ≡ true → AllByRecursion Small es → (front_entries name (lines (list_text name es ++ rest)) ≡ es ++ front_entries name (lines rest)) × (drop (length es) (lines (list_text name es ++ rest)) ≡ lines rest)
entries_back name [] rest p g = (refl, refl)
entries_back name (x ∷ es) rest p (s, g) =
    let ih = entries_back name es rest p g in
    let e : lines (list_text name (x ∷ es) ++ rest) ≡ entry_words name x ∷ lines (list_text name es ++ rest) = ap lines (append_assoc (entry_text name x) (list_text name es) rest) ∙ entry_lines name x (list_text name es ++ rest) p s in
    (ap (front_entries name) e ∙ ap (λ (o : Option StrengthFactor). understood_then o (front_entries name (lines (list_text name es ++ rest)))) (entry_back name x p s) ∙ ap (λ (xs : List StrengthFactor). x ∷ xs) ih.0, ap (drop (suc (length es))) e ∙ ih.1)

-- the other list's lines are not those of cracked concrete
other_line : (x : StrengthFactor) → entry_line (codes "cracked") (entry_words (codes "uncracked") x) ≡ None
unfolding entry_line
other_line x = ap (λ (ws : List (List ℕ)). two_numbers (after_name (codes "cracked") ws)) (word_ended (codes "uncracked") (decimal x.strength ++ (32 ∷ decimal x.factor)) (free_plain 32 (codes "uncracked") (omega arith) refl))

pub other_list : (es : List StrengthFactor) → AllByRecursion Small es → front_entries (codes "cracked") (lines (list_text (codes "uncracked") es)) ≡ []
other_list [] g = ap (front_entries (codes "cracked")) no_lines
other_list (x ∷ es) (s, g) =
    ap (front_entries (codes "cracked")) (entry_lines (codes "uncracked") x (list_text (codes "uncracked") es) refl s) ∙ ap (λ (o : Option StrengthFactor). understood_then o (front_entries (codes "cracked") (lines (list_text (codes "uncracked") es)))) (other_line x)

-- the text of a content whose numbers fit says that content
pub text_back : (c : Content) → Good table (numbers_from c.edition c.geometry c.values c.factors) → AllByRecursion Small c.cracked → AllByRecursion Small c.uncracked → parsed (text_of c) ≡ Ok c
unfolding text_of fields
text_back c good gc gu =
    let ns : List ℕ = numbers_from c.edition c.geometry c.values c.factors in
    let second : List ℕ = list_text (codes "uncracked") c.uncracked in
    let first : List ℕ = list_text (codes "cracked") c.cracked ++ second in
    let f = fields_back table ns first good in
    let a = entries_back (codes "cracked") c.cracked second refl gc in
    let b = entries_back (codes "uncracked") c.uncracked [] refl gu in
    let z : lines (second ++ []) ≡ lines second = ap lines (append-nil second) in
    let crv : c.cracked ≡ front_entries (codes "cracked") (lines first) = sym (a.0 ∙ ap (λ (xs : List StrengthFactor). c.cracked ++ xs) (other_list c.uncracked gu) ∙ append-nil c.cracked) in
    let unv : c.uncracked ≡ front_entries (codes "uncracked") (lines second) = sym (sym (ap (front_entries (codes "uncracked")) z) ∙ b.0 ∙ ap (λ (ls : List (List ℕ)). c.uncracked ++ front_entries (codes "uncracked") ls) no_lines ∙ append-nil c.uncracked) in
    let unp : lines [] ≡ drop (length c.uncracked) (lines second) = sym (sym (ap (drop (length c.uncracked)) z) ∙ b.1) in
    parsed_whole (fields_text table ns ++ first) first second [] ns c.cracked c.uncracked (length c.cracked) (length c.uncracked) (sym f.0) (sym f.1) crv (sym a.1) refl unv refl unp refl refl
