-- A whole number c beside K times the m-th root of n / d, and an end hn / hd of that root.
use Prim.Native.Nat.{ℕ, ◌+◌, ◌*◌, ◌^◌, ◌≤◌, ◌<◌}
use native.Mathlib.Nat.{mul-le-mul, mul-le-mul_right, le_of_mul-le-mul_right}
use native.Mathlib.Omega.{arith}
use Rattle.fractions.proofs.Powers.{mul_pow, root_le}

module _ (m n d c K hn hd : ℕ) where
  -- c is at most K times the root, and hn / hd at least the root
  pub root_below : 0 < m → 0 < d → c ^ m * d ≤ n * K ^ m → n * hd ^ m ≤ hn ^ m * d → c * hd ≤ hn * K
  root_below p pd low high =
      root_le m (c * hd) (hn * K) p
      (rw (mul_pow c hd m, mul_pow hn K m)
      (le_of_mul-le-mul_right {k = d} (omega (arith, mul-le-mul_right (hd ^ m) low, mul-le-mul_right (K ^ m) high)) pd))

  -- c is at least K times the root, and hn / hd at most the root
  pub root_above : 0 < m → 0 < d → n * K ^ m ≤ c ^ m * d → hn ^ m * d ≤ n * hd ^ m → hn * K ≤ c * hd
  root_above p pd high low =
      root_le m (hn * K) (c * hd) p
      (rw (mul_pow c hd m, mul_pow hn K m)
      (le_of_mul-le-mul_right {k = d} (omega (arith, mul-le-mul_right (hd ^ m) high, mul-le-mul_right (K ^ m) low)) pd))

-- a square below the next square
pub square_below : (n r : ℕ) → n * n < (r + 1) * (r + 1) → n ≤ r
square_below n r h = let no_more : r + 1 ≤ n → ⊥ = λ k. omega (arith, mul-le-mul k k) in omega arith

-- a cube below the next cube
pub cube_below : (n r : ℕ) → n * n * n < (r + 1) * (r + 1) * (r + 1) → n ≤ r
cube_below n r h = let no_more : r + 1 ≤ n → ⊥ = λ k. omega (arith, mul-le-mul (mul-le-mul k k) k) in omega arith
