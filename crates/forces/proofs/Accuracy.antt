-- A share against its exact readings, and all shares of a load together.
use Rattle.std.proofs.Common.{◌≡◌, ℕ, ◌+◌, ◌-◌, ◌*◌, ◌<◌, ◌≤◌, List, ⊎_elim, le_trans, mul-le-mul_right, mul-le-mul_left, mul-pos, le_of_mul-le-mul_right, arith}
use Rattle.std.proofs.lemmas.Bool.{cases_lt}
use Rattle.fractions.specs.Fractions.{Fraction, AtMost, whole, plus, less}
use Rattle.roots.proofs.Quotients.{up_least, up_most}
use Rattle.forces.specs.Shares.{gap, distances, spread, share}
use Rattle.forces.specs.Readings.{spread_of, reading, Beyond}
use Rattle.forces.proofs.Spreads.{less_low, less_high, spread_low, spread_high, spread_rises, spread_slow, length-distances, spread_long, one_of}

covers : (F x y v S T lb hb : ℕ) → F * y ≤ v * S → x ≤ y * lb → S * hb ≤ T → F * x * hb ≤ v * (lb * T)
covers F x y v S T lb hb h1 h2 h3 =
    omega (arith, mul-le-mul_left (F * hb) h2, mul-le-mul_right (lb * hb) h1, mul-le-mul_left (v * lb) h3)

-- (H - d) over the spread of L is at most a thousandth above (L - d) over that of H
core : (x S T : ℕ) → x ≤ S → S ≤ T → T ≤ S + 60 → 66000 ≤ S → 1000 * ((x + 5) * T) ≤ 1000 * (x * S) + S * T
core x S T xs st ts large = omega (arith, mul-le-mul_left (x + 5) ts, mul-le-mul_left S (le_trans large st))

near : (F x y v S T : ℕ) → x ≤ S → S ≤ T → T ≤ S + 60 → 66000 ≤ S → y ≤ x + 5 → v * S < F * y + S → 1000 * v * T ≤ 1000 * F * x + (F + 1000) * T
near F x y v S T xs st ts large yx h =
    le_of_mul-le-mul_right {k = S}
    (omega (arith, mul-le-mul_right (1000 * T) h, mul-le-mul_left (1000 * F * T) yx, mul-le-mul_left F (core x S T xs st ts large)))
    (omega arith)

with_rest : (F x v T U X lb hb e : ℕ) → 1000 * v * T ≤ 1000 * F * x + (F + 1000) * T → U ≤ T * lb → x * hb ≤ X → e + (F + 1000) ≡ 1000 * v → 1000 * v * (hb * U) ≤ 1000 * F * X * lb + (F + 1000) * (hb * U)
with_rest F x v T U X lb hb e h u k is =
    let t : e * T ≤ 1000 * F * x = let g : (e + (F + 1000)) * T ≡ 1000 * v * T = rw is in omega (arith, g) in
    let w : 1000 * v * (hb * U) ≡ (e + (F + 1000)) * (hb * U) = rw is in
    omega (arith, w, mul-le-mul_left (e * hb) u, mul-le-mul_right (hb * lb) t, mul-le-mul_left (1000 * F * lb) k)

reaches : (F x v T U X lb hb : ℕ) → 1000 * v * T ≤ 1000 * F * x + (F + 1000) * T → U ≤ T * lb → x * hb ≤ X → 1000 * v * (hb * U) ≤ 1000 * F * X * lb + (F + 1000) * (hb * U)
reaches F x v T U X lb hb h u k =
    ⊎_elim
    (λ (few : 1000 * v < F + 1000). omega (arith, mul-le-mul_right (hb * U) few))
    (λ (many : F + 1000 ≤ 1000 * v). with_rest F x v T U X lb hb (1000 * v - (F + 1000)) h u k (omega arith))
    (cases_lt (1000 * v) (F + 1000))

-- a load f in N at p, on the i-th of n anchors at spacing s, with the influence length L between two ends
module _ (f L n s p i : ℕ) (lo hi : Fraction) (here : i < n) (twelve : n ≤ 12) (inside : p + s ≤ n * s) (wider : s ≤ L) (long : 66000 ≤ L) (low : AtMost lo (whole (L + 5))) (high : AtMost (whole L) hi) where
  large : L ≤ spread L (distances n s p)
  large = spread_long n s p L (omega arith) inside wider

  spread_pos : 0 < spread L (distances n s p)
  spread_pos = omega (arith, large)

  -- the share is at least the low reading
  pub share_covers : AtMost (reading (1000 * f) lo hi (gap p (i * s)) (distances n s p)) (whole (share (1000 * f) L (gap p (i * s)) (distances n s p)))
  share_covers =
      let ds : List ℕ = distances n s p in
      let d : ℕ = gap p (i * s) in
      let F : ℕ = 1000 * f in
      let low' : lo.above ≤ (L + 5) * lo.below = omega arith in
      let high' : L * hi.below ≤ hi.above = omega arith in
      let sum : spread L ds * hi.below ≤ spread_of hi ds = spread_low L hi high' ds in
      let pos : 0 < spread L ds * hi.below = mul-pos spread_pos hi.proper in
      let all : 0 < lo.below * spread_of hi ds = mul-pos lo.proper (omega arith) in
      let c = covers F (less lo d).above (L + 5 - d) (share F L d ds) (spread L ds) (spread_of hi ds) lo.below hi.below (up_least (F * (L + 5 - d)) (spread L ds) spread_pos) (less_high (L + 5) d lo low') sum in
      let b : (lo.below * spread_of hi ds - 1) + 1 ≡ lo.below * spread_of hi ds = omega arith in
      rw b (omega arith)

  -- the share is at most a thousandth of the load and 1 mN above the high reading
  pub share_near : Beyond lo (distances n s p) → AtMost (whole (share (1000 * f) L (gap p (i * s)) (distances n s p))) (plus (reading (1000 * f) hi lo (gap p (i * s)) (distances n s p)) (whole (f + 1)))
  share_near beyond =
      let ds : List ℕ = distances n s p in
      let d : ℕ = gap p (i * s) in
      let F : ℕ = 1000 * f in
      let low' : lo.above ≤ (L + 5) * lo.below = omega arith in
      let high' : L * hi.below ≤ hi.above = omega arith in
      let slow : spread (L + 5) ds ≤ spread L ds + 60 = omega (arith, spread_slow L ds, length-distances n s p) in
      let big : 66000 ≤ spread L ds = omega (arith, large) in
      let one = near F (L - d) (L + 5 - d) (share F L d ds) (spread L ds) (spread (L + 5) ds) (one_of n s p L i here) (spread_rises L ds) slow big (omega arith) (up_most (F * (L + 5 - d)) (spread L ds) spread_pos) in
      let all = reaches F (L - d) (share F L d ds) (spread (L + 5) ds) (spread_of lo ds) (less hi d).above lo.below hi.below one (spread_high (L + 5) lo low' ds) (less_low L d hi high') in
      let pos : 0 < hi.below * spread_of lo ds = mul-pos hi.proper beyond in
      let b : (hi.below * spread_of lo ds - 1) + 1 ≡ hi.below * spread_of lo ds = omega arith in
      rw b (omega arith)
