-- A numeral read digit by digit.
use Rattle.std.proofs.Common.{◌≡◌, ℕ, ◌+◌, ◌-◌, ◌*◌, ◌^◌, ◌<◌, ◌≤◌, Bool, true, false, ◌&&◌, leb, ◌⊎◌, List, length, get_or, drop, Some, None, sym, ap, ◌∙◌, ⊎_elim, pow-suc, add-one, arith}
use native.Mathlib.Nat.{pow-le-pow_right}
use Rattle.std.specs.Char.{NotDecimalDigitIn}
use Rattle.std.specs.Int.{IsInRange}
use Rattle.std.proofs.lemmas.List.{at_drop_more, at_drop_all}
use Rattle.std.proofs.lemmas.Bool.{cases_lt, le-leb, lt-leb, and_from, and_left, and_right, cond-true, cond-false}
use Rattle.text_pieces.specs.Numerals.{digits, read_on, numeral, number_in}

pub wrong_length : (bs : List ℕ) → (length bs ≡ 0) ⊎ (9 < length bs) → None ≡ number_in bs
unfolding number_in
wrong_length bs h =
    let f : (leb 1 (length bs) && leb (length bs) 9) ≡ false = ⊎_elim (λ (e : length bs ≡ 0). and_left _ _ (lt-leb 1 (length bs) (omega arith))) (λ (g : 9 < length bs). and_right _ _ (lt-leb (length bs) 9 g)) h in
    sym (cond-false (numeral bs) (Some (read_on 0 bs)) None (and_left _ (digits bs) f))

-- `left` is what is still to read after n
module _ (bs : List ℕ) (i n : ℕ) (same : digits (drop i bs) ≡ digits bs) (left : read_on n (drop i bs) ≡ read_on 0 bs) where
  pub no_digit : i < length bs → NotDecimalDigitIn 10 (get_or bs i 0) → None ≡ number_in bs
  unfolding number_in
  no_digit h g =
      let e : digits (drop i bs) ≡ ((leb 48 (get_or bs i 0) && leb (get_or bs i 0) 57) && digits (drop (i + 1) bs)) = at_drop_more digits bs i 0 h in
      let f : (leb 48 (get_or bs i 0) && leb (get_or bs i 0) 57) ≡ false =
      ⊎_elim (λ (l : get_or bs i 0 < 48). and_left _ _ (lt-leb 48 (get_or bs i 0) l)) (λ (m : 48 ≤ get_or bs i 0). and_right _ _ (lt-leb (get_or bs i 0) 57 (grind arith))) (cases_lt (get_or bs i 0) 48) in
      sym (cond-false _ _ _ (and_right _ _ (sym same ∙ e ∙ and_left _ _ f)))

  -- one more digit
  pub digits_more : i < length bs → IsInRange 48 57 (get_or bs i 0) → digits (drop (i + 1) bs) ≡ digits bs
  digits_more h r =
      let e : digits (drop i bs) ≡ ((leb 48 (get_or bs i 0) && leb (get_or bs i 0) 57) && digits (drop (i + 1) bs)) = at_drop_more digits bs i 0 h in
      let f : (leb 48 (get_or bs i 0) && leb (get_or bs i 0) 57) ≡ true = and_from _ _ (le-leb 48 _ r.0) (le-leb _ 57 r.1) in
      sym (ap (λ (t : Bool). t && digits (drop (i + 1) bs)) f) ∙ sym e ∙ same

  pub read_more : (d : ℕ) → i < length bs → d + 48 ≡ get_or bs i 0 → read_on (10 * n + d) (drop (i + 1) bs) ≡ read_on 0 bs
  read_more d h v =
      let e : read_on n (drop i bs) ≡ read_on (10 * n + (get_or bs i 0 - 48)) (drop (i + 1) bs) = at_drop_more (read_on n) bs i 0 h in
      let f : d ≡ get_or bs i 0 - 48 = omega arith in
      ap (λ (x : ℕ). read_on (10 * n + x) (drop (i + 1) bs)) f ∙ sym e ∙ left

  pub read_all : length bs ≤ i → 1 ≤ length bs → length bs ≤ 9 → Some n ≡ number_in bs
  unfolding number_in
  read_all h a b =
      let d : true ≡ digits bs = sym (at_drop_all digits bs i h) ∙ same in
      let v : n ≡ read_on 0 bs = sym (at_drop_all (read_on n) bs i h) ∙ left in
      ap Some v ∙ sym (cond-true _ _ _ (and_from _ _ (and_from _ _ (le-leb 1 _ a) (le-leb _ 9 b)) (sym d)))

-- one more digit
pub below_more : (n d i : ℕ) → n < 10 ^ i → d ≤ 9 → 10 * n + d < 10 ^ (i + 1)
below_more n d i h g = let e : 10 ^ (i + 1) ≡ 10 ^ i * 10 = rw add-one (pow-suc 10 i) in omega arith

pub below_nine : (n i : ℕ) → n < 10 ^ i → i ≤ 9 → n < 1000000000
below_nine n i h g = let e : 10 ^ i ≤ 10 ^ 9 = pow-le-pow_right (omega arith) g in omega arith
