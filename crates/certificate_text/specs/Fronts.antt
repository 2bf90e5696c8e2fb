-- How far the lines of a text are understood.
use Rattle.std.specs.Prelude.{◌≡◌, ℕ, ◌+◌, ◌<◌, ◌≤◌, List, [], ◌∷◌, length, drop, Some, None, Ok, Err, vec_items, vec_len, Option, Result, Vec}
use Rattle.std.specs.declared.alloc.Global.{Global}
use Rattle.certificate.specs.declared.fields.StrengthFactor.{StrengthFactor}
use Rattle.certificate_text.specs.Names.{Field, fields}
use Rattle.text_pieces.specs.Pieces.{lines}
use Rattle.certificate_text.specs.Lines.{field_line, entry_line, next}
use Rattle.certificate_text.specs.declared.fault.TextFault.{TextFault}
use Rattle.certificate_text.specs.declared.fault.TextFault.TheVariants.{Line, Memory}

-- a line that is understood, and those after it; else the end
abbrev pub understood_then : {A : Type 0} → Option A → List A → List A
understood_then None xs = []
understood_then (Some x) xs = x ∷ xs

-- the numbers of the fields, as far as each line is that of its field
abbrev pub front_fields : List Field → List (List ℕ) → List ℕ
front_fields [] ls = []
front_fields (f ∷ fs) ls = understood_then (next (field_line f) ls) (front_fields fs (drop 1 ls))

-- the entries, as far as the lines are those of the list
abbrev pub front_entries : List ℕ → List (List ℕ) → List StrengthFactor
front_entries name [] = []
front_entries name (l ∷ ls) = understood_then (entry_line name l) (front_entries name ls)

-- the fixed lines are read
pub record AllRead (before after numbers : List ℕ) : Type 0 where
  pub values : numbers ≡ front_fields fields (lines before)
  pub full : length numbers ≡ 32
  pub past : lines after ≡ drop 32 (lines before)
  pub shorter : 32 + length after ≤ length before

-- all fixed lines, or the first that is not understood
abbrev pub Fixed : List ℕ → List ℕ → Result (List ℕ) TextFault → Type 0
Fixed before after (Ok numbers) = AllRead before after numbers
Fixed before after (Err Memory) = ⊥
Fixed before after (Err (Line n)) = (n ≡ length (front_fields fields (lines before)) + 1) × (n ≤ 32)

-- a list is read
pub record ListRead (name before after : List ℕ) (entries : Vec StrengthFactor Global) : Type 0 where
  pub values : vec_items entries ≡ front_entries name (lines before)
  pub past : lines after ≡ drop (vec_len entries) (lines before)
  pub shorter : vec_len entries + length after ≤ length before

-- the list's lines, or no memory for an entry of it
abbrev pub Listed : List ℕ → List ℕ → List ℕ → Result (Vec StrengthFactor Global) TextFault → Type 0
Listed name before after (Ok entries) = ListRead name before after entries
Listed name before after (Err Memory) = 0 < length (front_entries name (lines before))
Listed name before after (Err (Line n)) = ⊥
