-- A quotient rounded down, against the fractions equal to it.
use Rattle.std.proofs.Common.{ℕ, ◌+◌, ◌*◌, ◌/◌, ◌<◌, ◌≤◌, mul-le-mul_right, le_of_mul-le-mul_right, arith}
use native.Mathlib.Nat.{lt-div-mul-add}
use Rattle.fractions.specs.Fractions.{Fraction, over}
use Rattle.failure.specs.Meanings.{Exactly}

pub quotient_near : (n d : ℕ) (pos : 0 < d) (q : Fraction) → Exactly (over n d pos) q → q.above ≤ (n / d + 1) * q.below
quotient_near n d pos q e =
    let s : n ≤ (n / d + 1) * d = omega (arith, lt-div-mul-add {a = n} pos) in
    let k : q.above * d ≤ ((n / d + 1) * q.below) * d = omega (arith, mul-le-mul_right q.below s) in
    le_of_mul-le-mul_right k pos
