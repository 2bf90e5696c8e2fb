-- The entries of a list, one after the other.
use Rattle.std.proofs.Common.{◌≡◌, ℕ, zero, suc, ◌+◌, ◌*◌, ◌/◌, ◌<◌, List, ◌∷◌, ◌++◌, length, get_or, sym, ap, ◌∙◌, arith, length-append}
use Rattle.std.proofs.Math.ListN.{get_or-append}
use Rattle.std.proofs.lemmas.List.{ext_get_or, get_or-append-add}
use Rattle.std.proofs.lemmas.List.FromFn.{length-map-range_with_len, get_or-map-range_with_len}
use Rattle.certificate.specs.Bytes.{u16_at}
use Rattle.certificate.specs.Content.{entry_at, entries}
use Rattle.certificate.specs.declared.fields.StrengthFactor.{StrengthFactor}

pub length-entries : (bs : List ℕ) → length (entries bs) ≡ length bs / 4
length-entries bs = length-map-range_with_len (entry_at bs) 0 (length bs / 4)

entries_at : (bs : List ℕ) (k : ℕ) (d : StrengthFactor) → k < length bs / 4 → get_or (entries bs) k d ≡ entry_at bs k
entries_at bs k d h = get_or-map-range_with_len (entry_at bs) 0 (length bs / 4) k k d h (omega arith)

-- four bytes in front are the first entry, and put the others back by one
module _ (bs rest : List ℕ) (four : length bs ≡ 4) where
  beyond : (i j : ℕ) → i ≡ 4 + j → get_or (bs ++ rest) i 0 ≡ get_or rest j 0
  beyond i j e = let s : i ≡ length bs + j = omega arith in ap (λ (k : ℕ). get_or (bs ++ rest) k 0) s ∙ get_or-append-add bs rest j 0

  next_number : (i j : ℕ) → i ≡ 4 + j → u16_at (bs ++ rest) i ≡ u16_at rest j
  next_number i j e =
      let a = beyond i j e in
      let b = beyond (i + 1) (j + 1) (omega arith) in
      omega arith

  next_entry : (k : ℕ) → entry_at (bs ++ rest) (suc k) ≡ entry_at rest k
  next_entry k =
      let a = next_number (4 * suc k) (4 * k) (omega arith) in
      let b = next_number (4 * suc k + 2) (4 * k + 2) (omega arith) in
      cc

  within : (i : ℕ) → i < 4 → get_or (bs ++ rest) i 0 ≡ get_or bs i 0
  within i h = get_or-append bs rest 0 i (omega arith)

  first_entry : entry_at (bs ++ rest) 0 ≡ entry_at bs 0
  first_entry =
      let a = within 0 (omega arith) in
      let b = within 1 (omega arith) in
      let c = within 2 (omega arith) in
      let e = within 3 (omega arith) in
      cc

  same_entry : (k : ℕ) (d : StrengthFactor) → k < length (bs ++ rest) / 4 → entry_at (bs ++ rest) k ≡ get_or (entry_at bs 0 ∷ entries rest) k d
  same_entry zero d h = first_entry
  same_entry (suc k) d h = next_entry k ∙ sym (entries_at rest k d (omega (arith, length-append bs rest)))

  pub entries_first : entries (bs ++ rest) ≡ entry_at bs 0 ∷ entries rest
  entries_first =
      let d : StrengthFactor = record { strength = 0; factor = 0 } in
      let n = length-append bs rest in
      let a = length-entries (bs ++ rest) in
      let b = length-entries rest in
      ext_get_or d (entries (bs ++ rest)) (entry_at bs 0 ∷ entries rest) (omega arith) (λ i h. let g : i < length (bs ++ rest) / 4 = omega arith in entries_at (bs ++ rest) i d g ∙ same_entry i d g)
