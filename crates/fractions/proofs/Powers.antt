-- Powers of whole numbers.
use mathlib.Core.Path.{◌≡◌, ◌∙◌}
use Prim.Native.Nat.{ℕ, zero, suc, ◌*◌, ◌^◌, ◌≤◌, ◌<◌}
use native.Mathlib.Nat.{pow-zero, pow-suc, pow-lt-pow_left, lt_of_not-le, not-le_of_lt, le_of_suc-le-suc, ne_of_gt, mul-mul-mul_comm, mul-zero, mul-suc}
use native.Mathlib.Omega.{arith}
use lib.Pow.{pow-add}

pub pow_one : (n : ℕ) → n ^ 1 ≡ n
pow_one n = pow-suc n 0 ∙ rw pow-zero (omega arith)

pub pow_two : (n : ℕ) → n ^ 2 ≡ n * n
pow_two n = pow-suc n 1 ∙ rw pow_one

pub pow_three : (n : ℕ) → n ^ 3 ≡ n * n * n
pow_three n = pow-suc n 2 ∙ rw (pow_two n)

pub pow_four : (n : ℕ) → n ^ 4 ≡ n * n * (n * n)
pow_four n = pow-add n 2 2 ∙ rw (pow_two n)

pub pow_five : (n : ℕ) → n ^ 5 ≡ n * n * (n * n) * n
pow_five n = pow-suc n 4 ∙ rw (pow_four n)

pub mul_pow : (a b n : ℕ) → (a * b) ^ n ≡ a ^ n * b ^ n
mul_pow a b zero = rw (pow-zero (a * b), pow-zero a, pow-zero b)
mul_pow a b (suc n) = rw (pow-suc (a * b) n, pow-suc a n, pow-suc b n, mul_pow a b n) (mul-mul-mul_comm (a ^ n) (b ^ n) a b)

pub pow_mul : (a i j : ℕ) → a ^ (i * j) ≡ (a ^ i) ^ j
pow_mul a i zero = rw (mul-zero i, pow-zero a, pow-zero (a ^ i))
pow_mul a i (suc j) = rw (mul-suc i j, pow-add a (i * j) i, pow-suc (a ^ i) j, pow_mul a i j)

-- a power rises strictly, so it can be taken off
pub root_le : (m a b : ℕ) → 0 < m → a ^ m ≤ b ^ m → a ≤ b
root_le m a b p h = le_of_suc-le-suc (lt_of_not-le (λ k. not-le_of_lt (pow-lt-pow_left k (ne_of_gt p)) h))
