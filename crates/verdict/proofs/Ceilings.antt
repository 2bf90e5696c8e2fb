-- Division rounded up as std has it, and capped.
use Rattle.std.proofs.Common.{◌≡◌, ℕ, ◌+◌, ◌-◌, ◌*◌, ◌/◌, ◌%◌, ◌<◌, ◌≤◌, min, Ok, Err, Result, OkIff, rules, div-mul-le_self, arith}
use Rattle.std.proofs.Math.Nat.{lt-div-mul-add, lt_of_mul-lt-mul_right}
use Rattle.std.proofs.lemmas.Grind.{div_ceil_times}
use Rattle.std.specs.Result.{result_unwrap_or}
use Rattle.roots.specs.Division.{up}

one : (a b x y : ℕ) → a ≤ x * b → x * b < a + b → y * b ≤ a + (b - 1) → a + (b - 1) < y * b + b → x ≡ y
one a b x y low high under over =
    let p : x < y + 1 = lt_of_mul-lt-mul_right b (omega arith) in
    let q : y < x + 1 = lt_of_mul-lt-mul_right b (omega arith) in
    omega arith

pub ceiling_up : (a b : ℕ) → 0 < b → a / b + min 1 (a % b) ≡ up a b
ceiling_up a b pos =
    let c = div_ceil_times a b pos in
    one a b (a / b + min 1 (a % b)) ((a + (b - 1)) / b) c.0 c.1 (div-mul-le_self (a + (b - 1)) b) (lt-div-mul-add {a = a + (b - 1)} pos)

-- past what the type holds, the quotient is past the cap too
pub capped : {E : Type 0} (q : ℕ) (r : Result ℕ E) → OkIff r (q < 4294967296) q → min (result_unwrap_or r 999999) 999999 ≡ min q 999999
capped q (Ok x) h = search rules
capped q (Err e) h = search rules
