-- With a bolt placed or lifted the bolts still rise, and with one placed there is one more.
use Rattle.std.proofs.Common.{◌≡◌, ℕ, suc, ◌+◌, ◌≤◌, true, not, eqb, ltb, List, [], ◌∷◌, length, sym, ap, ◌∙◌, subst, ltb-true, ltb-false, arith}
use Rattle.std.specs.List.{All, AllPairs, prefix_len}
use Rattle.std.proofs.lemmas.List.Elements.{All-from_get_or}
use Rattle.std.proofs.lemmas.List.Kept.{AllPairs-filter}
use Rattle.std.proofs.lemmas.List.Sums.{prefix_len_passes, prefix_len_stops, prefix_len-le-length}
use Rattle.std.proofs.lemmas.List.Edits.{length-insert}
use Rattle.std.proofs.lemmas.List.{get_or_default}
use Rattle.bolts.specs.Bolts.{no_bolt, Spaced, clear, placed, lifted}
use Rattle.bolts.specs.declared.bolt.Bolt.{Bolt}
use Rattle.bolts.proofs.Rows.{pairs, Slot}
use Rattle.bolts.proofs.Placed.{placed_is, spaced_inserted}

-- each bolt lies 300 tenths or more before every later one
abbrev pub Rises : List Bolt → Type 0
Rises [] = Unit {0}
Rises (x ∷ xs) = All (λ y. x.position + 300 ≤ y.position) xs × Rises xs

pub rises_from : (xs : List Bolt) → Spaced xs → Rises xs
rises_from [] s = tt
rises_from (x ∷ xs) s =
    (All-from_get_or (λ y. x.position + 300 ≤ y.position) xs no_bolt (λ k h. pairs (x ∷ xs) s 0 (suc k) (omega arith) (omega arith)), rises_from xs (λ k h. pairs (x ∷ xs) s (suc k) (suc (k + 1)) (omega arith) (omega arith)))

abbrev Before : Bolt → Bolt → Type 0
Before x y = x.position + 300 ≤ y.position

all_pairs : (xs : List Bolt) → Spaced xs → AllPairs Before xs
all_pairs xs s i j d lt h =
    rw (get_or_default xs i d no_bolt (omega arith), get_or_default xs j d no_bolt h) (pairs xs s i j lt h)

pub spaced_lifted : (p : ℕ) (xs : List Bolt) → Spaced xs → Spaced (lifted p xs)
spaced_lifted p xs s k h =
    AllPairs-filter Before (λ x. not (eqb x.position p)) xs (all_pairs xs s) k (k + 1) no_bolt (omega arith) h

slot_of : (xs : List Bolt) (p : ℕ) → (i : ℕ) × Slot xs p i
slot_of xs p =
    let lower = λ (x : Bolt). ltb x.position p in (
      prefix_len lower xs,
      record {
        within = prefix_len-le-length lower xs;
        before = λ k h. ltb-true _ _ (prefix_len_passes lower xs k no_bolt h);
        stop = λ h. ltb-false _ _ (prefix_len_stops lower xs no_bolt h);
      },
    )

pub spaced_placed : (b : Bolt) (xs : List Bolt) → Spaced xs → clear b.position xs ≡ true → Spaced (placed b xs)
spaced_placed b xs s e =
    let t = slot_of xs b.position in
    subst Spaced (placed_is xs b t.0 s t.1 e) (spaced_inserted xs b t.0 s t.1 e)

pub length-placed : (b : Bolt) (xs : List Bolt) → Spaced xs → clear b.position xs ≡ true → length (placed b xs) ≡ length xs + 1
length-placed b xs s e =
    let t = slot_of xs b.position in
    ap length (sym (placed_is xs b t.0 s t.1 e)) ∙ length-insert xs t.0 b t.1.within
