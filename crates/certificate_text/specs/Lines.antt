-- What a line says: a name, and after it one number or two.
use Rattle.std.specs.Prelude.{◌≡◌, ℕ, ◌<◌, true, false, cond, List, [], ◌∷◌, length, drop, is_some, Some, None, Option, nat_le}
use Rattle.std.specs.Str.{bytes_eq}
use Rattle.certificate.specs.declared.fields.StrengthFactor.{StrengthFactor}
use Rattle.certificate_text.specs.Names.{Field}
use Rattle.text_pieces.specs.Pieces.{lines, words}
use Rattle.text_pieces.specs.Numerals.{number_in}

-- the words after the name; none where the line begins with another word
abbrev pub after_name : List ℕ → List (List ℕ) → List (List ℕ)
after_name name [] = []
after_name name (w ∷ ws) = cond (bytes_eq w name) ws []

-- a number that fits its field
abbrev pub at_most : ℕ → Option ℕ → Option ℕ
at_most most None = None
at_most most (Some n) = cond (nat_le n most) (Some n) None

abbrev pub bounded : ℕ → List ℕ → Option ℕ
bounded most word = at_most most (number_in word)

-- one word, a number
abbrev pub one_number : ℕ → List (List ℕ) → Option ℕ
one_number most [] = None
one_number most (n ∷ []) = bounded most n
one_number most (n ∷ m ∷ ws) = None

abbrev pub both : Option ℕ → Option ℕ → Option StrengthFactor
both None f = None
both (Some s) None = None
both (Some s) (Some f) = Some (record { strength = s; factor = f })

-- two words, a strength and a factor of 16 bits
abbrev pub two_numbers : List (List ℕ) → Option StrengthFactor
two_numbers [] = None
two_numbers (s ∷ []) = None
two_numbers (s ∷ f ∷ []) = both (bounded 65535 s) (bounded 65535 f)
two_numbers (s ∷ f ∷ w ∷ ws) = None

-- the line of a field
unfoldable pub field_line : Field → List ℕ → Option ℕ
field_line field line = one_number field.most (after_name field.name (words line))

-- the line of a list
unfoldable pub entry_line : List ℕ → List ℕ → Option StrengthFactor
entry_line name line = two_numbers (after_name name (words line))

-- what the first line says
abbrev pub next : {A : Type 0} → (List ℕ → Option A) → List (List ℕ) → Option A
next read [] = None
next read (l ∷ ls) = read l

-- a reader goes past a line that it understands, and stays before any other
pub record Steps {A : Type 0} (read : List ℕ → Option A) (before after : List ℕ) (r : Option A) : Type 0 where
  pub says : r ≡ next read (lines before)
  pub past : is_some r ≡ true → lines after ≡ drop 1 (lines before)
  pub shorter : is_some r ≡ true → length after < length before
  pub stays : is_some r ≡ false → after ≡ before

-- what is read from the first line, by a predicate of the lines and what is read from each
abbrev pub NextReads : {A : Type 0} → (List ℕ → Option A → Type 0) → List (List ℕ) → Option A → Type 0
NextReads reads [] r = r ≡ None
NextReads reads (l ∷ ls) r = reads l r

-- the same step, told by that predicate
pub record StepsBy {A : Type 0} (reads : List ℕ → Option A → Type 0) (before after : List ℕ) (r : Option A) : Type 0 where
  pub says : NextReads reads (lines before) r
  pub past : is_some r ≡ true → lines after ≡ drop 1 (lines before)
  pub shorter : is_some r ≡ true → length after < length before
  pub stays : is_some r ≡ false → after ≡ before
