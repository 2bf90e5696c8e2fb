-- The lines of a text, read one by one.
use Rattle.std.proofs.Common.{◌≡◌, ℕ, ◌+◌, ◌<◌, ◌≤◌, List, [], ◌∷◌, ◌++◌, map, length, get_or, take, drop, set, Some, None, Option, sym, refl, ap, ◌∙◌, arith}
use Rattle.std.proofs.lemmas.List.{append_assoc, append-nil, at_drop_more, at_drop_all, take_more_set, take_all, length-take, length-set, drop-drop, length-map, get_or-map}
use Rattle.certificate.specs.declared.fields.StrengthFactor.{StrengthFactor}
use Rattle.certificate_text.specs.Names.{Field, fields, edition}
use Rattle.certificate_text.specs.Fields.{field_of}
use Rattle.certificate_text.specs.declared.names.Field as code
use Rattle.text_pieces.specs.Pieces.{lines}
use Rattle.certificate_text.specs.Lines.{field_line, entry_line, next, Steps}
use Rattle.certificate_text.specs.Fronts.{understood_then, front_fields, front_entries, AllRead}

pub all_fields : length fields ≡ 32
unfolding fields
all_fields = refl

-- the code's table has them all, each in its place
pub all_code : (xs : List code.Field) → map field_of xs ≡ fields → length xs ≡ 32
all_code xs e = sym (length-map xs field_of) ∙ ap length e ∙ all_fields

pub code_at : (xs : List code.Field) (k : ℕ) (d : code.Field) → map field_of xs ≡ fields → k < length xs → field_of (get_or xs k d) ≡ get_or fields k edition
code_at xs k d e h = sym (get_or-map field_of xs k d edition h) ∙ ap (λ (fs : List Field). get_or fs k edition) e

-- k fields are read, into the first k of the numbers
pub record SomeRead (before after numbers : List ℕ) (k : ℕ) : Type 0 where
  pub values : take k numbers ++ front_fields (drop k fields) (lines after) ≡ front_fields fields (lines before)
  pub past : lines after ≡ drop k (lines before)
  pub shorter : k + length after ≤ length before
  pub room : length numbers ≡ 32

module _ (before after numbers : List ℕ) (k : ℕ) (inv : SomeRead before after numbers k) where
  next_field : k < 32 → front_fields (drop k fields) (lines after) ≡ understood_then (next (field_line (get_or fields k edition)) (lines after)) (front_fields (drop (k + 1) fields) (drop 1 (lines after)))
  next_field h = at_drop_more (λ (fs : List Field). front_fields fs (lines after)) fields k edition (omega (arith, all_fields))

  pub field_more : (then : List ℕ) (n : ℕ) → k < 32 → Steps (field_line (get_or fields k edition)) after then (Some n) → SomeRead before then (set numbers k n) (k + 1)
  field_more then n h s =
      let e = next_field h ∙ ap (λ (o : Option ℕ). understood_then o (front_fields (drop (k + 1) fields) (drop 1 (lines after)))) (sym s.says) in
      let f : front_fields (drop k fields) (lines after) ≡ n ∷ front_fields (drop (k + 1) fields) (lines then) = e ∙ ap (λ (ls : List (List ℕ)). n ∷ front_fields (drop (k + 1) fields) ls) (sym (s.past refl)) in
      let r = inv.room in
      let t = take_more_set numbers k n (omega arith) in
      record {
        values =
            ap (λ (ns : List ℕ). ns ++ front_fields (drop (k + 1) fields) (lines then)) t
            ∙ append_assoc (take k numbers) (n ∷ []) (front_fields (drop (k + 1) fields) (lines then))
            ∙ ap (λ (ns : List ℕ). take k numbers ++ ns) (sym f)
            ∙ inv.values;
        past = s.past refl ∙ ap (drop 1) inv.past ∙ drop-drop 1 k (lines before);
        shorter = omega (arith, s.shorter refl, inv.shorter);
        room = length-set numbers k n ∙ r;
      }

  pub field_stop : (then : List ℕ) → k < 32 → Steps (field_line (get_or fields k edition)) after then None → k ≡ length (front_fields fields (lines before))
  field_stop then h s =
      let e : front_fields (drop k fields) (lines after) ≡ [] = next_field h ∙ ap (λ (o : Option ℕ). understood_then o (front_fields (drop (k + 1) fields) (drop 1 (lines after)))) (sym s.says) in
      let f : front_fields fields (lines before) ≡ take k numbers = sym inv.values ∙ ap (λ (ns : List ℕ). take k numbers ++ ns) e ∙ append-nil (take k numbers) in
      omega (arith, ap length f, length-take k numbers, inv.room)

  pub fields_end : 32 ≤ k → k ≤ 32 → AllRead before after numbers
  fields_end h g =
      let e : front_fields (drop k fields) (lines after) ≡ [] = at_drop_all (λ (fs : List Field). front_fields fs (lines after)) fields k (omega (arith, all_fields)) in
      let z : k ≡ 32 = omega arith in
      let t = take_all k numbers (omega (arith, inv.room)) in
      record {
        values = sym t ∙ sym (append-nil (take k numbers)) ∙ ap (λ (ns : List ℕ). take k numbers ++ ns) (sym e) ∙ inv.values;
        full = inv.room;
        past = inv.past ∙ ap (λ (n : ℕ). drop n (lines before)) z;
        shorter = omega (arith, inv.shorter);
      }

-- the next line of a list
next_entry : (name : List ℕ) (ls : List (List ℕ)) → front_entries name ls ≡ understood_then (next (entry_line name) ls) (front_entries name (drop 1 ls))
next_entry name [] = refl
next_entry name (l ∷ ls) = refl

-- the entries so far, in a vector of len items
pub record EntriesRead (name before after : List ℕ) (items : List StrengthFactor) (len : ℕ) : Type 0 where
  pub values : items ++ front_entries name (lines after) ≡ front_entries name (lines before)
  pub past : lines after ≡ drop len (lines before)
  pub shorter : len + length after ≤ length before

module _ (name before after : List ℕ) (items : List StrengthFactor) (len : ℕ) (inv : EntriesRead name before after items len) where
  pub entry_more : (then : List ℕ) (x : StrengthFactor) → Steps (entry_line name) after then (Some x) → EntriesRead name before then (items ++ x ∷ []) (len + 1)
  entry_more then x s =
      let e = next_entry name (lines after) ∙ ap (λ (o : Option StrengthFactor). understood_then o (front_entries name (drop 1 (lines after)))) (sym s.says) in
      let f : front_entries name (lines after) ≡ x ∷ front_entries name (lines then) = e ∙ ap (λ (ls : List (List ℕ)). x ∷ front_entries name ls) (sym (s.past refl)) in
      record {
        values = append_assoc items (x ∷ []) (front_entries name (lines then)) ∙ ap (λ (xs : List StrengthFactor). items ++ xs) (sym f) ∙ inv.values;
        past = s.past refl ∙ ap (drop 1) inv.past ∙ drop-drop 1 len (lines before);
        shorter = omega (arith, s.shorter refl, inv.shorter);
      }

  pub entries_same : (xs : List StrengthFactor) (n : ℕ) → xs ≡ items → n ≡ len → EntriesRead name before after xs n
  entries_same xs n e z =
      record {
        values = ap (λ (ys : List StrengthFactor). ys ++ front_entries name (lines after)) e ∙ inv.values;
        past = inv.past ∙ ap (λ (m : ℕ). drop m (lines before)) (sym z);
        shorter = omega (arith, inv.shorter);
      }
