-- A resistance times the root of a ratio x in millionths, rounded down, against its readings times ends of brackets.
use Rattle.std.specs.Prelude.{◌≡◌, ℕ, ◌+◌, ◌*◌, ◌/◌, ◌^◌, ◌<◌, ◌≤◌, refl}
use Rattle.std.proofs.Common.{ap, inl, inr, mul-le-mul_right, mul-le-mul_left, le_of_mul-le-mul_right, mul-pos, arith, lit<, ltb-true}
use Rattle.std.proofs.Math.Nat.{lt-div-mul-add, div-le_of_le-mul}
use Rattle.std.proofs.lemmas.Bool.{cases_lt}
use Rattle.fractions.specs.Fractions.{Fraction, whole, times}
use Rattle.fractions.proofs.Powers.{pow_two}
use Rattle.fractions.proofs.Roots.{root_below, root_above}
use Rattle.roots.specs.Extremes.{Greatest}
use Rattle.roots.specs.Roots.{root_down_of}
use Rattle.roots.proofs.Extremes.{greatest_next}
use Rattle.roots.proofs.Roots.{root_down_is, root_down_within}
use Rattle.failure.specs.Meanings.{Readings, Meaning, LawfulAt}
use Rattle.failure.specs.Reductions.{Times, LowRoot, HighRoot, below_one, root_reduced, root_meaning}
use Rattle.failure.specs.Shortfalls.{Near}
use Rattle.failure.specs.Products.{Kept, kept_below, reduced_lawful, product_safe}

-- g is the root in millionths, down
module _ (x : Fraction) (g : ℕ) (is : Greatest (λ n. n * n * x.below ≤ x.above * 10 ^ 12) g) where
  under_high : (h : Fraction) → HighRoot x h → g * h.below ≤ h.above * 1000000
  under_high h up =
      root_below 2 x.above x.below g 1000000 h.above h.below (lit< tt) x.proper (rw (pow_two g) (omega (arith, is.fits))) up

  over_low : (l : Fraction) → LowRoot x l → l.above * 1000000 ≤ (g + 1) * l.below
  over_low l down =
      let past : (g + 1) * (g + 1) * x.below ≤ x.above * 10 ^ 12 → ⊥ = greatest_next _ g is in
      root_above 2 x.above x.below (g + 1) 1000000 l.above l.below (lit< tt) x.proper (rw (pow_two (g + 1)) (omega arith)) down

  low_one : x.above ≤ x.below → (l : Fraction) → LowRoot x l → l.above ≤ l.below
  low_one less l down =
      omega (arith, root_above 2 x.above x.below 1 1 l.above l.below (lit< tt) x.proper (omega arith) down)

  module _ (r : ℕ) (R : Readings) where
    root_close : x.above ≤ x.below → 100000 ≤ g → (a : ℕ) → ((q : Fraction) → R q → Near a r q) → (p : Fraction) → Times (LowRoot x) R p → Near (a + 50) (r * g / 1000000) p
    root_close less big a h p (q, l, in-R, down, same) =
        let n = r * g / 1000000 in
        let t = 1000 + a / 50 in
        let d : r * g ≤ r * g / 1000000 * 1000000 + 1000000 = omega (arith, lt-div-mul-add {a = r * g} {b = 1000000} (lit< tt)) in
        -- the mode below, times the factor
        let e : 1000000 * ((r + t) * l.above) ≤ (1000000 * (r * g / 1000000 + 1 + t) + r) * l.below =
        omega (arith, mul-le-mul_left r (over_low l down), mul-le-mul_right l.below d, mul-le-mul_left t (low_one less l down)) in
        let y = mul-le-mul_right (l.above * p.below) (h q in-R) in
        let z = mul-le-mul_right (q.below * p.below) e in
        let v = ap (λ k. a * k) same in
        let k : (1000000 * p.above) * (q.below * l.below) ≤ (a * p.above + (1000000 * (r * g / 1000000 + 1 + t) + r) * p.below) * (q.below * l.below) = omega arith in
        let near = le_of_mul-le-mul_right k (mul-pos q.proper l.proper) in
        let step : (a + 50) / 50 ≡ a / 50 + 1 = omega arith in
        rw step (split n near d)
      where
        split : (n : ℕ) → 1000000 * p.above ≤ a * p.above + (1000000 * (n + 1 + (1000 + a / 50)) + r) * p.below → r * g ≤ n * 1000000 + 1000000
            → 1000000 * p.above ≤ (a + 50) * p.above + 1000000 * ((n + 1000 + (a / 50 + 1)) * p.below)
        split n near d =
            elim (cases_lt (50 * p.above) (r * p.below)) [
              | inl over ↦
                  let f : r ≤ 10 * (n + 1) = omega (arith, mul-le-mul_left r big) in
                  omega (arith, mul-le-mul_right p.below f)
              | inr fine ↦ omega arith
            ]

-- the factor of a ratio below 1
module _ (x : Fraction) (enough : 25000 ≤ x.above) (small : x.below ≤ 2500000) (less : x.above < x.below) where
  root_is : Greatest (λ n. n * n * x.below ≤ x.above * 10 ^ 12) (root_down_of x.above x.below)
  root_is = root_down_is x.above x.below (omega arith) (omega arith)

  root_small : root_down_of x.above x.below ≤ 1000000
  root_small = omega (arith, root_down_within x.above x.below (omega arith) (omega arith) _ root_is)

  -- a hundredth or more, so its root is a tenth or more
  root_big : 100000 ≤ root_down_of x.above x.below
  root_big = root_is.most 100000 (omega arith)

  some_low : (R : Readings) → ((q : Fraction) × R q) → (p : Fraction) × Times (LowRoot x) R p
  some_low R (q, in-R) = (times q (whole 0), (q, whole 0, in-R, omega arith, refl))

  some_high : (R : Readings) → ((q : Fraction) × R q) → (p : Fraction) × Times (HighRoot x) R p
  some_high R (q, in-R) = (times q (whole 1), (q, whole 1, in-R, omega arith, refl))

  kept : (w : ℕ) (m : Meaning) (i : ℕ) → LawfulAt w m i
      → Kept m.allowance (m.resistance i) (m.resistance i * root_down_of x.above x.below / 1000000) (m.low_resistance i) (Times (LowRoot x) (m.low_resistance i)) (Times (HighRoot x) (m.high_resistance i))
  kept w m i law =
      let r = m.resistance i in
      record {
        fits = div-le_of_le-mul 1000000 (omega (arith, mul-le-mul_left r root_small, law.resistance_fits));
        some_low = some_low (m.low_resistance i) law.some_low_resistance;
        some_high = some_high (m.high_resistance i) law.some_high_resistance;
        safe = product_safe _ 1000000 (lit< tt) (HighRoot x) (m.high_resistance i) (under_high x _ root_is) r law.resistance_safe;
        close = root_close x _ root_is r (m.low_resistance i) (omega arith) root_big m.allowance;
      }

pub root_lawful : (w : ℕ) (x : ℕ → Fraction) (m : Meaning) (i : ℕ) → 25000 ≤ (x i).above → (x i).below ≤ 2500000 → LawfulAt w m i → LawfulAt w (root_meaning x m) i
root_lawful w x m i enough small law =
    let y = x i in
    let k = kept_below w m i _ _ _ (below_one y) law (λ e. kept y enough small (ltb-true y.above y.below e) w m i law) in
    reduced_lawful w root_reduced LowRoot HighRoot x m i law k.fits k.some_low k.some_high k.safe k.close
