-- The edge's value by the second edition against its readings.
use Rattle.std.proofs.Common.{◌≡◌, ℕ, ◌+◌, ◌*◌, ◌/◌, ◌^◌, ◌<◌, ◌≤◌, mul-le-mul, mul-le-mul_right, mul-le-mul_left, lit<, arith}
use Rattle.fractions.specs.Fractions.{AtMost, whole, over, times}
use Rattle.fractions.proofs.Powers.{pow_two, pow_three}
use Rattle.fractions.proofs.Roots.{root_below, root_above, square_below, cube_below}
use Rattle.roots.specs.Extremes.{Greatest}
use Rattle.roots.proofs.Extremes.{greatest_next}
use Rattle.concrete.specs.Edge.{LowRoots, HighRoots, second_read}

module _ (k f c g t x : ℕ) (g_is : Greatest (λ n. n * n ≤ f * 10 ^ 12) g) (t_is : Greatest (λ n. n * n * n ≤ c * 10 ^ 14) t) (is : x ≡ k * g * c * t / 10 ^ 10) where
  pub second_safe : (r : HighRoots f c) → AtMost (whole x) (second_read k c r.strength r.distance)
  second_safe r =
      let a = r.strength in
      let b = r.distance in
      let u : g * a.below ≤ a.above * 10 ^ 6 = root_below 2 f 1 g (10 ^ 6) a.above a.below (lit< tt) (lit< tt) (rw (pow_two g) (omega (arith, g_is.fits))) (omega (arith, r.strength_high)) in
      let v : t * b.below ≤ b.above * 10 ^ 5 = root_below 3 c 10 t (10 ^ 5) b.above b.below (lit< tt) (lit< tt) (rw (pow_three t) (omega (arith, t_is.fits))) (omega (arith, r.distance_high)) in
      let y : x * 10 ^ 10 ≤ k * c * (g * t) = omega arith in
      omega (arith, mul-le-mul_left (k * c) (mul-le-mul u v), mul-le-mul_right (a.below * b.below) y)

  g_next : f * 10 ^ 12 < (g + 1) * (g + 1)
  g_next = omega (arith, greatest_next (λ n. n * n ≤ f * 10 ^ 12) g g_is)

  t_next : c * 10 ^ 14 < (t + 1) * (t + 1) * (t + 1)
  t_next = omega (arith, greatest_next (λ n. n * n * n ≤ c * 10 ^ 14) t t_is)

  -- less 10 millionths of it, at most 1 mN below
  pub second_close : 12 ≤ f → 250 ≤ c → (r : LowRoots f c) → AtMost (times (second_read k c r.strength r.distance) (over 999990 1000000 (lit< tt))) (whole (x + 1))
  second_close f1 c1 r =
      let a = r.strength in
      let b = r.distance in
      let gl : 3000000 ≤ g = square_below 3000000 g (omega (arith, g_next)) in
      let tl : 290000 ≤ t = cube_below 290000 t (omega (arith, t_next)) in
      let u : a.above * 10 ^ 6 ≤ (g + 1) * a.below = root_above 2 f 1 (g + 1) (10 ^ 6) a.above a.below (lit< tt) (lit< tt) (rw (pow_two (g + 1)) (omega (arith, g_next))) (omega (arith, r.strength_low)) in
      let v : b.above * 10 ^ 5 ≤ (t + 1) * b.below = root_above 3 c 10 (t + 1) (10 ^ 5) b.above b.below (lit< tt) (lit< tt) (rw (pow_three (t + 1)) (omega (arith, t_next))) (omega (arith, r.distance_low)) in
      let y : k * c * (g * t) ≤ (x + 1) * 10 ^ 10 = omega arith in
      let z : (g + 1) * (t + 1) * 999990 ≤ g * t * 10 ^ 6 = omega (arith, mul-le-mul_left g tl, mul-le-mul_right t gl) in
      omega (arith, mul-le-mul_left (k * c) (mul-le-mul u v), mul-le-mul_left (k * c * (a.below * b.below)) z, mul-le-mul_right (a.below * b.below) y)
