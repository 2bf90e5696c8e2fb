-- The definitions of the roots are what their names say.
use Rattle.std.proofs.Common.{ℕ, ◌*◌, ◌^◌, ◌<◌, ◌≤◌, le_of_mul-le-mul_right, arith}
use Rattle.fractions.proofs.Roots.{square_below}
use Rattle.roots.specs.Extremes.{Greatest, Least}
use Rattle.roots.specs.Roots.{square_root_of, cube_root_of, fourth, fifth_root_of, root_down_of, root_up_of}
use Rattle.roots.proofs.Extremes.{greatest_of_is, least_of_is}
use Rattle.roots.specs.Rises.{square_rises, scaled_square_rises, cube_rises, fifth_rises}

pub square_root_is : (x : ℕ) → x < 2 ^ 64 → Greatest (λ n. n * n ≤ x) (square_root_of x)
square_root_is x h = greatest_of_is 32 x (λ n. n * n) square_rises (omega arith) (omega arith)

pub cube_root_is : (x : ℕ) → x < 2 ^ 64 → Greatest (λ n. n * n * n ≤ x) (cube_root_of x)
cube_root_is x h = greatest_of_is 22 x (λ n. n * n * n) cube_rises (omega arith) (omega arith)

pub fifth_root_is : (x : ℕ) → x < 2 ^ 64 → Greatest (λ n. fourth n * n ≤ x) (fifth_root_of x)
fifth_root_is x h = greatest_of_is 21 x (λ n. fourth n * n) fifth_rises (omega arith) (omega arith)

-- a ratio above 0 and at most 1
module _ (a b : ℕ) (some : 0 < a) (part : a ≤ b) where
  pub root_down_is : Greatest (λ n. n * n * b ≤ a * 10 ^ 12) (root_down_of a b)
  root_down_is = greatest_of_is 32 (a * 10 ^ 12) (λ n. n * n * b) (scaled_square_rises b) (omega arith) (omega arith)

  -- a root down is at most a million
  pub root_down_within : (r : ℕ) → Greatest (λ n. n * n * b ≤ a * 10 ^ 12) r → r ≤ 10 ^ 6
  root_down_within r g =
      square_below r (10 ^ 6) (omega (arith, le_of_mul-le-mul_right {m = r * r} {n = 10 ^ 12} {k = b} (omega (arith, g.fits)) (omega arith)))

  pub root_up_is : Least (λ n. a * 10 ^ 12 ≤ n * n * b) (root_up_of a b)
  root_up_is = least_of_is 32 (a * 10 ^ 12) (λ n. n * n * b) (scaled_square_rises b) (omega arith) (omega arith)

  -- a root up is at most a million
  pub root_up_within : (r : ℕ) → Least (λ n. a * 10 ^ 12 ≤ n * n * b) r → r ≤ 10 ^ 6
  root_up_within r l = l.least (10 ^ 6) (omega arith)
