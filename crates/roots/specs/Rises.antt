-- What the roots are taken of rises.
use Rattle.std.specs.Prelude.{ℕ, ◌*◌, ◌≤◌}
use Rattle.std.proofs.Common.{mul-le-mul, mul-le-mul_right, arith}
use Rattle.roots.specs.Roots.{second, fourth}

pub square_rises : (m n : ℕ) → m ≤ n → m * m ≤ n * n
square_rises m n h = mul-le-mul h h

pub scaled_square_rises : (b m n : ℕ) → m ≤ n → m * m * b ≤ n * n * b
scaled_square_rises b m n h = mul-le-mul_right b (mul-le-mul h h)

pub cube_rises : (m n : ℕ) → m ≤ n → m * m * m ≤ n * n * n
cube_rises m n h = mul-le-mul (mul-le-mul h h) h

pub second_rises : (m n : ℕ) → m ≤ n → second m ≤ second n
second_rises m n h = omega (arith, mul-le-mul h h)

pub fourth_rises : (m n : ℕ) → m ≤ n → fourth m ≤ fourth n
fourth_rises m n h = let k = second_rises m n h in omega (arith, mul-le-mul k k)

pub fifth_rises : (m n : ℕ) → m ≤ n → fourth m * m ≤ fourth n * n
fifth_rises m n h = mul-le-mul (fourth_rises m n h) h
