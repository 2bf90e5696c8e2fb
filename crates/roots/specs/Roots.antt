-- Whole roots, as definitions that compute.
--   square_root_of x, cube_root_of x   the greatest whole root of a number below 2^64
--   second c, fourth c                 c^2 over 100 rounded up; that squared, over 10^8, rounded up
--   fifth_root_of x                    the greatest c with fourth c times c at most x
--   root_down_of a b, root_up_of a b   the square root of a over b in millionths, down and up
use Rattle.std.specs.Prelude.{ℕ, ◌+◌, ◌*◌, ◌/◌, ◌^◌, nat_le}
use Rattle.roots.specs.Extremes.{greatest_of, least_of}

abbrev pub square_root_of : ℕ → ℕ
square_root_of x = greatest_of 32 (λ n. nat_le (n * n) x)

abbrev pub cube_root_of : ℕ → ℕ
cube_root_of x = greatest_of 22 (λ n. nat_le (n * n * n) x)

abbrev pub second : ℕ → ℕ
second c = (c * c + 99) / 100

abbrev pub fourth : ℕ → ℕ
fourth c = (second c * second c + 99999999) / 100000000

abbrev pub fifth_root_of : ℕ → ℕ
fifth_root_of x = greatest_of 21 (λ n. nat_le (fourth n * n) x)

abbrev pub root_down_of : ℕ → ℕ → ℕ
root_down_of a b = greatest_of 32 (λ n. nat_le (n * n * b) (a * 10 ^ 12))

abbrev pub root_up_of : ℕ → ℕ → ℕ
root_up_of a b = least_of 32 (λ n. nat_le (a * 10 ^ 12) (n * n * b))
