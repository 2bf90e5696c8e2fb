-- A utilisation against the readings of its effect and its resistance.
use Rattle.std.proofs.Common.{◌≡◌, ℕ, zero, suc, ◌+◌, ◌-◌, ◌*◌, ◌/◌, ◌<◌, ◌≤◌, min, ap, mul-le-mul_right, mul-le-mul_left, le-mul_of_pos_right, div-mul-le_self, le_of_mul-le-mul_right, arith, lit<}
use native.Mathlib.Nat.{lt-div-mul-add}
use Rattle.fractions.specs.Fractions.{Fraction, AtMost, whole, over, plus}
use Rattle.failure.specs.Meanings.{excess, shortfall}
use Rattle.failure.specs.Shortfalls.{at_most_near}
use Rattle.verdict.specs.Utilisations.{utilised}
use Rattle.verdict.specs.Exact.{Within, raised, lowered}

utilised_over : (e : ℕ) → 0 < e → utilised e 0 ≡ 999999
utilised_over e h = grind arith

utilised_some : (e r : ℕ) → 0 < e → 0 < r → utilised e r ≡ min ((10000 * e + (r - 1)) / r) 999999
utilised_some e r h k = grind arith

module _ (e r : ℕ) (pe : 0 < e) (pr : 0 < r) where
  enough_some : utilised e r < 999999 → 10000 * e ≤ utilised e r * r
  enough_some h =
      let u = utilised_some e r pe pr in
      let m : utilised e r ≡ (10000 * e + (r - 1)) / r = omega arith in
      let d = lt-div-mul-add {a = 10000 * e + (r - 1)} pr in
      omega (arith, ap (λ x. x * r) m)

  tight_some : utilised e r * r ≤ 10000 * e + r
  tight_some =
      let u = utilised_some e r pe pr in
      let m : utilised e r ≤ (10000 * e + (r - 1)) / r = omega arith in
      let d = div-mul-le_self (10000 * e + (r - 1)) r in
      omega (arith, mul-le-mul_right r m)

-- below its cap a utilisation is no less than the quotient
enough : (e r : ℕ) → utilised e r < 999999 → 10000 * e ≤ utilised e r * r
enough zero r h = omega arith
enough (suc e) zero h = omega (arith, utilised_over (suc e) (omega arith))
enough (suc e) (suc r) h = enough_some (suc e) (suc r) (omega arith) (omega arith) h

-- and it is less than one above it
tight : (e r : ℕ) → 0 < r → utilised e r * r ≤ 10000 * e + r
tight zero r pos = omega arith
tight (suc e) r pos = tight_some (suc e) r (omega arith) pos

-- a share of n ten-thousandths
abbrev pub share : ℕ → Fraction
share n = over n 10000 (lit< tt)

-- an effect of at most the shown one is within the share that a utilisation of at most n < 999,999 gives, of a resistance
-- of at least the shown one
pub within : (e r n : ℕ) → utilised e r ≤ n → n < 999999 → (q p : Fraction) → AtMost q (whole e) → AtMost (whole r) p → Within q (share n) p
within e r n h below-cap q p low high =
    let a = mul-le-mul_right (10000 * p.below) low in
    let b = mul-le-mul_right (q.below * p.below) (enough e r (omega arith)) in
    let c = mul-le-mul_right (r * (q.below * p.below)) h in
    let d = mul-le-mul_left (n * q.below) high in
    omega arith

bears_raw : (e r et eb lt lb xt xb : ℕ) → 0 < eb → 0 < lb → e * eb ≤ et → 10004 * lt ≤ 10000 * (r * lb) → et * (xb * lb) ≤ (xt * lt) * eb → 10004 * (e * xb) ≤ 10000 * (xt * r)
bears_raw e r et eb lt lb xt xb pe pl high low h =
    let a = mul-le-mul_right (xb * lb) high in
    let b : (e * (xb * lb)) * eb ≤ (xt * lt) * eb = omega arith in
    let c = le_of_mul-le-mul_right b pe in
    let d = mul-le-mul_left xt low in
    let f : (10004 * (e * xb)) * lb ≤ (10000 * (xt * r)) * lb = omega arith in
    le_of_mul-le-mul_right f pl

slack_raw : (e r xt xb : ℕ) → 0 < xb → 10004 * (e * xb) ≤ 10000 * (xt * r) → 10004 * (utilised e r * xb) ≤ 100000000 * xt + 10004 * xb
slack_raw zero r xt xb px h = omega arith
slack_raw (suc e) zero xt xb px h = absurd (omega (arith, le-mul_of_pos_right (suc e) px))
slack_raw (suc e) (suc r) xt xb px h =
    let a = mul-le-mul_left (10004 * xb) (tight (suc e) (suc r) (omega arith)) in
    let b : (10004 * (utilised (suc e) (suc r) * xb)) * suc r ≤ (100000000 * xt + 10004 * xb) * suc r = omega arith in
    le_of_mul-le-mul_right b (omega arith)

-- a utilisation v that hardly passes the share x
abbrev pub Bent : ℕ → Fraction → Type 0
Bent v x = 10004 * (v * x.below) ≤ 100000000 * x.above + 10004 * x.below

module _ (w a e r : ℕ) (accurate : a ≤ 600) (q p : Fraction) (near : AtMost (whole e) (plus q (excess w))) (close : AtMost p (plus (whole r) (shortfall a p))) where
  -- the lowered resistance, and 4 parts in 10,000 of it, are at most the shown one
  low : 10004 * (lowered p).above ≤ 10000 * (r * (lowered p).below)
  low =
      let c = at_most_near a r p close in
      let x = mul-le-mul_right p.above accurate in
      let s : r + 1000 + a / 50 ≤ r + 1012 = omega arith in
      let y = mul-le-mul_right p.below s in
      omega arith

  -- what a share of the lowered resistance bears, the shown one bears with 4 parts in 10,000 to spare
  bears : (x : Fraction) → Within (raised w q) x (lowered p) → 10004 * (e * x.below) ≤ 10000 * (x.above * r)
  bears x h =
      bears_raw e r (raised w q).above (raised w q).below (lowered p).above (lowered p).below x.above x.below
      (raised w q).proper (lowered p).proper (omega arith) low h

  -- so the utilisation is hardly above the share
  pub slack : (x : Fraction) → Within (raised w q) x (lowered p) → Bent (utilised e r) x
  slack x h = slack_raw e r x.above x.below x.proper (bears x h)
