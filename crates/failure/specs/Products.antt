-- A resistance times a ratio x, rounded down, against its readings times x.
use Rattle.std.specs.Prelude.{◌≡◌, ℕ, ◌+◌, ◌*◌, ◌/◌, ◌<◌, ◌≤◌, Bool, true, false, cond, refl}
use Rattle.std.proofs.Common.{ap, div-mul-le_self, mul-le-mul_right, mul-le-mul_left, le_of_mul-le-mul_right, mul-pos, le_antisymm, arith, ltb-true}
use Rattle.std.proofs.Math.Nat.{lt-div-mul-add, div-le_of_le-mul}
use Rattle.fractions.specs.Fractions.{Fraction, AtMost, whole, times}
use Rattle.failure.specs.Meanings.{Readings, Exactly, Meaning, LawfulAt}
use Rattle.failure.specs.Reductions.{Times, below_one, raised, straight_reduced, reduced, straight_meaning}
use Rattle.failure.specs.Shortfalls.{Near, near_at_most, at_most_near, near_rises}

-- what a reduction owes at a place: of its own resistance and readings
pub reduced_lawful : (w : ℕ) (n : ℕ → ℕ → ℕ → ℕ) (L H : Fraction → Readings) (x : ℕ → Fraction) (m : Meaning) (i : ℕ) → LawfulAt w m i
    → (reduced n L H x m).resistance i ≤ 2000000000
    → ((q : Fraction) × (reduced n L H x m).low_resistance i q) → ((q : Fraction) × (reduced n L H x m).high_resistance i q)
    → ((q : Fraction) → (reduced n L H x m).high_resistance i q → AtMost (whole ((reduced n L H x m).resistance i)) q)
    → (((q : Fraction) → m.low_resistance i q → Near m.allowance (m.resistance i) q)
    → (q : Fraction) → (reduced n L H x m).low_resistance i q → Near (m.allowance + 50) ((reduced n L H x m).resistance i) q)
    → LawfulAt w (reduced n L H x m) i
reduced_lawful w n L H x m i law fits some_low some_high safe close =
    let r = n (x i).above (x i).below (m.resistance i) in
    record {
      effect_fits = law.effect_fits;
      resistance_fits = fits;
      some_low_effect = law.some_low_effect;
      some_high_effect = law.some_high_effect;
      some_low_resistance = some_low;
      some_high_resistance = some_high;
      effect_safe = law.effect_safe;
      resistance_safe = safe;
      effect_close = λ few. law.effect_close (omega arith);
      resistance_close = λ few q in-L.
          let same : raised m.allowance ≡ m.allowance + 50 = omega arith in
          rw same
          (near_at_most (m.allowance + 50) r q
          (close (λ p in-R. at_most_near m.allowance (m.resistance i) p (law.resistance_close (omega arith) p in-R)) q in-L));
    }

-- what a reduction owes of its own resistance n and readings L' and H'; the mode below has the resistance r with the low
-- readings L, at the allowance a
pub record Kept (a r n : ℕ) (L L' H' : Readings) : Type 0 where
  pub fits : n ≤ 2000000000
  pub some_low : (q : Fraction) × L' q
  pub some_high : (q : Fraction) × H' q
  pub safe : (q : Fraction) → H' q → AtMost (whole n) q
  pub close : ((q : Fraction) → L q → Near a r q) → (q : Fraction) → L' q → Near (a + 50) n q

-- where the ratio is not below 1 all stays as it is
pub kept_below : (w : ℕ) (m : Meaning) (i n : ℕ) (L H : Readings) (t : Bool) → LawfulAt w m i → (t ≡ true → Kept m.allowance (m.resistance i) n (m.low_resistance i) L H)
    → Kept m.allowance (m.resistance i) (cond t n (m.resistance i)) (m.low_resistance i) (cond t L (m.low_resistance i)) (cond t H (m.high_resistance i))
kept_below w m i n L H false law kept = record {
  fits = law.resistance_fits;
  some_low = law.some_low_resistance;
  some_high = law.some_high_resistance;
  safe = law.resistance_safe;
  close = λ near q in-L. near_rises m.allowance (m.resistance i) q (near q in-L);
}
kept_below w m i n L H true law kept = kept refl

-- r times n over d, down, is at most every reading times a factor of at least n over d
pub product_safe : (n d : ℕ) → 0 < d → (F R : Readings) → ((u : Fraction) → F u → n * u.below ≤ u.above * d)
    → (r : ℕ) → ((q : Fraction) → R q → AtMost (whole r) q) → (p : Fraction) → Times F R p → AtMost (whole (r * n / d)) p
product_safe n d pos F R factor r h p (q, u, in-R, in-F, same) =
    let y = mul-le-mul_right (p.below * (q.below * u.below)) (div-mul-le_self (r * n) d) in
    let z = mul-le-mul_right (n * (p.below * u.below)) (h q in-R) in
    let v = mul-le-mul_left (q.above * p.below) (factor u in-F) in
    let s = ap (λ k. k * d) same in
    let k : (r * n / d * p.below) * (q.below * u.below * d) ≤ (p.above * 1) * (q.below * u.below * d) = omega arith in
    le_of_mul-le-mul_right k (mul-pos (mul-pos q.proper u.proper) pos)

-- a factor that is x may be taken for x
times_exactly : (x l q p : Fraction) → Exactly x l → Exactly (times q l) p → Exactly (times q x) p
times_exactly x l q p e same =
    let y = ap (λ k. k * x.below) same in
    let z = ap (λ k. q.above * p.below * k) e in
    let k : (p.above * (q.below * x.below)) * l.below ≡ (q.above * x.above * p.below) * l.below = omega arith in
    le_antisymm (le_of_mul-le-mul_right {k = l.below} (omega arith) l.proper) (le_of_mul-le-mul_right {k = l.below} (omega arith) l.proper)

module _ (x : Fraction) (less : x.above ≤ x.below) (r : ℕ) where
  some : (R : Readings) → ((q : Fraction) × R q) → (p : Fraction) × Times (Exactly x) R p
  some R (q, in-R) = (times q x, (q, x, in-R, refl, refl))

  close : (a : ℕ) (R : Readings) → ((q : Fraction) → R q → Near a r q) → (p : Fraction) → Times (Exactly x) R p → Near (a + 50) (r * x.above / x.below) p
  close a R h p (q, l, in-R, e, product) =
      let same = times_exactly x l q p e product in
      let step : (a + 50) / 50 ≡ a / 50 + 1 = omega arith in
      let y = mul-le-mul_right (x.above * p.below) (h q in-R) in
      let d : r * x.above ≤ r * x.above / x.below * x.below + x.below = omega (arith, lt-div-mul-add {a = r * x.above} x.proper) in
      let f : (r + 1000 + a / 50) * x.above ≤ (r * x.above / x.below + 1001 + a / 50) * x.below =
      omega (arith, mul-le-mul_left (1000 + a / 50) less) in
      let z = mul-le-mul_right (q.below * p.below) f in
      let v = ap (λ k. a * k) same in
      let k : (1000000 * p.above) * (q.below * x.below) ≤ ((a + 50) * p.above + 1000000 * ((r * x.above / x.below + 1000 + (a / 50 + 1)) * p.below)) * (q.below * x.below) = omega arith in
      rw step (le_of_mul-le-mul_right k (mul-pos q.proper x.proper))

kept : (w : ℕ) (x : Fraction) (m : Meaning) (i : ℕ) → LawfulAt w m i → x.above ≤ x.below
    → Kept m.allowance (m.resistance i) (m.resistance i * x.above / x.below) (m.low_resistance i) (Times (Exactly x) (m.low_resistance i)) (Times (Exactly x) (m.high_resistance i))
kept w x m i law less =
    let r = m.resistance i in
    record {
      fits = div-le_of_le-mul x.below (omega (arith, mul-le-mul_left r less, mul-le-mul_right x.below law.resistance_fits));
      some_low = some x less r (m.low_resistance i) law.some_low_resistance;
      some_high = some x less r (m.high_resistance i) law.some_high_resistance;
      safe = product_safe x.above x.below x.proper (Exactly x) (m.high_resistance i) (λ u e. omega arith) r law.resistance_safe;
      close = close x less r m.allowance (m.low_resistance i);
    }

pub straight_lawful : (w : ℕ) (x : ℕ → Fraction) (m : Meaning) (i : ℕ) → LawfulAt w m i → LawfulAt w (straight_meaning x m) i
straight_lawful w x m i law =
    let y = x i in
    let less : below_one (x i) ≡ true → (x i).above ≤ (x i).below = λ e. omega (arith, ltb-true (x i).above (x i).below e) in
    let k = kept_below w m i _ _ _ (below_one y) law (λ e. kept w y m i law (less e)) in
    reduced_lawful w straight_reduced Exactly Exactly x m i law k.fits k.some_low k.some_high k.safe k.close
