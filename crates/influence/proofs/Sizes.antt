-- How large the steps of the influence length are.
use Rattle.std.proofs.Common.{ℕ, ◌+◌, ◌*◌, ◌^◌, ◌<◌, ◌≤◌, le_trans, le_of_eq, mul-le-mul_right, mul-le-mul, arith, lit<}
use native.Mathlib.Nat.{pow-le-pow_left}
use Rattle.fractions.proofs.Powers.{pow_four, pow_five, mul_pow, pow_mul, root_le}
use Rattle.fractions.proofs.Roots.{square_below}
use Rattle.roots.specs.Roots.{fourth}
use Rattle.roots.proofs.Extremes.{greatest_next}
use Rattle.roots.specs.Rises.{fifth_rises}
use Rattle.influence.specs.Lengths.{Steps, InRange}
use Rattle.influence.proofs.Rounding.{fourth_least, fifth_slack}

module _ (i s a b c q l : ℕ) (t : Steps i s a b c q l) where
  a_next : i * 10 ^ 12 < (a + 1) * (a + 1)
  a_next = let past : (a + 1) * (a + 1) ≤ i * 10 ^ 12 → ⊥ = greatest_next _ a t.a_is in omega arith

  b_next : a * 10 ^ 6 < (b + 1) * (b + 1)
  b_next = let past : (b + 1) * (b + 1) ≤ a * 10 ^ 6 → ⊥ = greatest_next _ b t.b_is in omega arith

  c_next : b * 10 ^ 7 < fourth (c + 1) * (c + 1)
  c_next = let past : fourth (c + 1) * (c + 1) ≤ b * 10 ^ 7 → ⊥ = greatest_next _ c t.c_is in omega arith

  pub q_next : s * 10 ^ 9 < (q + 1) * (q + 1)
  q_next = let past : (q + 1) * (q + 1) ≤ s * 10 ^ 9 → ⊥ = greatest_next _ q t.q_is in omega arith

  c_five : c ^ 5 ≤ b * 10 ^ 19
  c_five = rw (pow_five c) (omega (arith, mul-le-mul_right c (fourth_least c), t.c_is.fits))

  b_four : b ^ 4 ≤ i * 10 ^ 24
  b_four = rw (pow_four b) (omega (arith, mul-le-mul t.b_is.fits t.b_is.fits, t.a_is.fits))

  -- c is at most 10^5 times the 20th root of i
  pub c_twenty : c ^ 20 * 1 ≤ i * (10 ^ 5) ^ 20
  c_twenty =
      rw (pow_mul c 5 4)
      (omega (arith, le_trans (pow-le-pow_left c_five 4) (le_of_eq (mul_pow b (10 ^ 19) 4)), b_four))

  b_large : 1 ≤ i → 1000000 ≤ b
  b_large h =
      let large : 1000000 ≤ a = square_below 1000000 a (omega (arith, a_next)) in
      square_below 1000000 b (omega (arith, b_next))

  b_four_up : 1 ≤ i → i * 10 ^ 24 ≤ (b + 2) ^ 4
  b_four_up h =
      let k : (a + 1) * 10 ^ 6 ≤ (b + 2) * (b + 2) = omega (arith, b_large h, b_next) in
      rw (pow_four (b + 2)) (omega (arith, mul-le-mul k k, a_next))

  c_large : 1 ≤ i → 10 ^ 5 ≤ c + 1
  c_large h =
      let no_less : c + 1 ≤ 99999 → ⊥ = λ k. omega (arith, fifth_rises (c + 1) 99999 k, c_next, b_large h) in
      omega arith

  -- c and three halves are at least 10^5 times the 20th root of i
  pub c_twenty_up : 1 ≤ i → i * (2 * 10 ^ 5) ^ 20 ≤ (2 * (c + 1) + 1) ^ 20 * 1
  c_twenty_up h =
      let five : 32 * (b + 2) * 10 ^ 19 ≤ (2 * (c + 1) + 1) ^ 5 = fifth_slack (c + 1) b (c_large h) c_next in
      rw (pow_mul (2 * (c + 1) + 1) 5 4)
      (omega (arith, pow-le-pow_left five 4, mul_pow (32 * (b + 2)) (10 ^ 19) 4, mul_pow 32 (b + 2) 4, b_four_up h))

  pub c_small : i ≤ 200000 → c ≤ 200000
  c_small h = root_le 20 c 200000 (lit< tt) (omega (arith, c_twenty))

  pub q_small : s ≤ 2500 → q ≤ 1600000
  q_small h = square_below q 1600000 (omega (arith, t.q_is.fits))

  c_larger : 4000 ≤ i → 150000 ≤ c
  c_larger h =
      let al : 63000000 ≤ a = square_below 63000000 a (omega (arith, a_next)) in
      let bl : 7900000 ≤ b = square_below 7900000 b (omega (arith, b_next)) in
      let no_less : c + 1 ≤ 150000 → ⊥ = λ k. omega (arith, fifth_rises (c + 1) 150000 k, c_next) in
      omega arith

  q_large : 500 ≤ s → 700000 ≤ q
  q_large h = square_below 700000 q (omega (arith, q_next))

  pub spacing_within : InRange i s → 100 * s ≤ l
  spacing_within r =
      let small = q_small r.narrow in
      let large = c_larger r.stiff in
      omega (arith, t.length, q_next, mul-le-mul_right q small, mul-le-mul_right q large, q_large r.wide)

  pub length_least : InRange i s → 130000 ≤ l
  length_least r = omega (arith, t.length, mul-le-mul (c_larger r.stiff) (q_large r.wide))

  pub length_most : InRange i s → l ≤ 1000000
  length_most r = omega (arith, t.length, mul-le-mul (c_small r.slender) (q_small r.narrow))
