-- A word with a letter that is no digit is refused.
use Rattle.std.proofs.Common.{◌≡◌, ℕ, ◌+◌, ◌*◌, ◌%◌, ◌==◌, Bool, cond, true, false, ◌||◌, ◌⊎◌, List, [], ◌∷◌, length, Some, None, Option, Result, Ok, Err, IsOk, is_none, refl, ap, ◌∙◌, sym, inl, inr, arith, rules, tests}
use Rattle.std.proofs.lemmas.Bool.{or_parts, or_cases}
use Rattle.std.specs.List.{list_any}
use Rattle.std.specs.Char.{is_ascii_uppercase}
use Rattle.hex.specs.Hex.{hex_digit_value, digit_or_error, decode_pairs, decode_of, ◌>>=◌}
use Rattle.hex.specs.declared.error.FromHexError.{FromHexError}
use Rattle.table_bytes.specs.declared.fault.TableFault.TheVariants.{Half, Digit}
use Rattle.table_bytes.specs.Written.{lifted, is_other}

-- two letters, by the values that they have, and what follows
pair_refused : (c d i : ℕ) (a b : Option ℕ) (r : Result (List ℕ) FromHexError) → (is_none a ≡ true) ⊎ ((is_none b ≡ true) ⊎ (lifted r ≡ Err Digit)) → lifted ((digit_or_error c i a >>= (λ h. digit_or_error d (i + 1) b >>= (λ l. Ok (h * 16 + l)))) >>= (λ byte. r >>= (λ bytes. Ok (byte ∷ bytes)))) ≡ Err Digit
pair_refused c d i None b r x = refl
pair_refused c d i (Some v) None r x = refl
pair_refused c d i (Some v) (Some w) (Ok bs) x = elim x [ inl e ↦ cc | inr y ↦ elim y [ inl e ↦ cc | inr e ↦ cc ] ]
pair_refused c d i (Some v) (Some w) (Err f) x = elim x [ inl e ↦ cc | inr y ↦ elim y [ inl e ↦ cc | inr e ↦ e ] ]

-- a letter that is another and not in upper case has no value
valueless : (c : ℕ) → is_other c ≡ true → is_ascii_uppercase c ≡ false → is_none (hex_digit_value c) ≡ true
valueless c e u = elim (or_cases (is_none (hex_digit_value c)) (is_ascii_uppercase c) e) [ inl n ↦ n | inr t ↦ cc ]

pairs_refused : (w : List ℕ) (i : ℕ) → list_any is_other w ≡ true → list_any is_ascii_uppercase w ≡ false → length w % 2 ≡ 0 → lifted (decode_pairs i w) ≡ Err Digit
unfolding decode_pairs
pairs_refused [] i e u even = cc
pairs_refused (c ∷ []) i e u even = cc
pairs_refused (c ∷ d ∷ w) i e u even =
    let p = or_parts (is_ascii_uppercase c) (is_ascii_uppercase d || list_any is_ascii_uppercase w) u in
    let q = or_parts (is_ascii_uppercase d) (list_any is_ascii_uppercase w) p.1 in
    pair_refused c d i (hex_digit_value c) (hex_digit_value d) (decode_pairs (i + 2) w) (elim (or_cases (is_other c) (is_other d || list_any is_other w) e) [
      | inl here ↦ inl (valueless c here p.0)
      | inr on ↦ inr (elim (or_cases (is_other d) (list_any is_other w) on) [
        | inl here ↦ inl (valueless d here q.0)
        | inr later ↦ inr (pairs_refused w (i + 2) later q.1 (omega arith))
      ])
    ])

-- so the word is, where it has whole pairs
pub refused : (w : List ℕ) → length w % 2 ≡ 0 → list_any is_other w ≡ true → cond (length w % 2 == 1) (Err Half) (cond (list_any is_ascii_uppercase w) (Err Digit) (lifted (decode_of w))) ≡ Err Digit
refused w even e = rw even (step (list_any is_ascii_uppercase w) refl)
  where
    step : (t : Bool) → list_any is_ascii_uppercase w ≡ t → cond t (Err Digit) (lifted (decode_pairs 0 w)) ≡ Err Digit
    step true u = refl
    step false u = pairs_refused w 0 e u even

-- two digits, and what follows them
pair_read : (c d i : ℕ) (a b : Option ℕ) (r : Result (List ℕ) FromHexError) → is_none a ≡ false → is_none b ≡ false → IsOk (lifted r) → IsOk (lifted ((digit_or_error c i a >>= (λ h. digit_or_error d (i + 1) b >>= (λ l. Ok (h * 16 + l)))) >>= (λ byte. r >>= (λ bytes. Ok (byte ∷ bytes)))))
pair_read c d i None b r x y z = cc
pair_read c d i (Some v) None r x y z = cc
pair_read c d i (Some v) (Some w) (Ok bs) x y z = refl
pair_read c d i (Some v) (Some w) (Err f) x y z = z

pairs_read : (w : List ℕ) (i : ℕ) → list_any is_other w ≡ false → length w % 2 ≡ 0 → IsOk (lifted (decode_pairs i w))
unfolding decode_pairs
pairs_read [] i e even = refl
pairs_read (c ∷ []) i e even = cc
pairs_read (c ∷ d ∷ w) i e even =
    let p = or_parts (is_other c) (is_other d || list_any is_other w) e in
    let q = or_parts (is_other d) (list_any is_other w) p.1 in
    let x = or_parts (is_none (hex_digit_value c)) (is_ascii_uppercase c) p.0 in
    let y = or_parts (is_none (hex_digit_value d)) (is_ascii_uppercase d) q.0 in
    pair_read c d i (hex_digit_value c) (hex_digit_value d) (decode_pairs (i + 2) w) x.0 y.0 (pairs_read w (i + 2) q.1 (omega arith))

-- a word of whole pairs of digits is read
pub read : (w : List ℕ) → length w % 2 ≡ 0 → list_any is_other w ≡ false → list_any is_ascii_uppercase w ≡ false → IsOk (cond (length w % 2 == 1) (Err Half) (cond (list_any is_ascii_uppercase w) (Err Digit) (lifted (decode_of w))))
read w even e u = rw (even, u) (pairs_read w 0 e even)
