-- The cone's resistance against its readings.
use Rattle.std.proofs.Common.{ℕ, ◌+◌, ◌*◌, ◌/◌, ◌^◌, ◌<◌, ◌≤◌, div-mul-le_self, mul-le-mul_right, lit<, arith}
use Rattle.std.proofs.Math.Nat.{lt-div-mul-add}
use Rattle.fractions.specs.Fractions.{AtMost, whole, plus}
use Rattle.fractions.proofs.Powers.{pow_two}
use Rattle.fractions.proofs.Roots.{root_below, root_above}
use Rattle.roots.specs.Extremes.{Greatest}
use Rattle.roots.proofs.Extremes.{greatest_next}
use Rattle.concrete.specs.Cone.{cone_resistance, LowCone, HighCone, low_cone, high_cone}

module _ (N x γ : ℕ) (least : 100 ≤ γ) (is : Greatest (λ n. n * n ≤ N / 10) x) where
  γ_pos : 0 < γ
  γ_pos = omega arith

  fits : x ^ 2 * 10 ≤ N * 1 ^ 2
  fits = rw (pow_two x) (omega (arith, is.fits))

  next : N * 1 ^ 2 ≤ (x + 1) ^ 2 * 10
  next = rw (pow_two (x + 1)) (omega (arith, greatest_next (λ n. n * n ≤ N / 10) x is))

  pub cone_safe : (pos : 0 < γ) (c : HighCone N) → AtMost (whole (cone_resistance x γ)) (high_cone γ pos c)
  cone_safe pos c =
      let u = c.root in
      let k : x * u.below ≤ u.above * 1 = root_below 2 N 10 x 1 u.above u.below (lit< tt) (lit< tt) fits (omega (arith, c.is_high)) in
      let a = mul-le-mul_right u.below (div-mul-le_self (x * 100) γ) in
      omega (arith, a, k)

  -- at most 2 mN below
  pub cone_close : (pos : 0 < γ) (c : LowCone N) → AtMost (low_cone γ pos c) (plus (whole (cone_resistance x γ)) (whole 2))
  cone_close pos c =
      let l = c.root in
      let k : l.above * 1 ≤ (x + 1) * l.below = root_above 2 N 10 (x + 1) 1 l.above l.below (lit< tt) (lit< tt) next (omega (arith, c.is_low)) in
      let d : x * 100 ≤ cone_resistance x γ * γ + γ = omega (arith, lt-div-mul-add {a = x * 100} pos) in
      let a = mul-le-mul_right l.below d in
      let b = mul-le-mul_right l.below least in
      omega (arith, a, b, k)
