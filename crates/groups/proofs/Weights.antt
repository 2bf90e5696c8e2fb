-- The shown weight against the exact one.
use Rattle.std.proofs.Common.{◌≡◌, ℕ, ◌+◌, ◌-◌, ◌*◌, ◌^◌, ◌<◌, ◌≤◌, Bool, true, false, cond, eqb, ap, subst, ⊎_elim, mul-le-mul_right, mul-le-mul_left, arith, lit<}
use native.Mathlib.Nat.{mul-sub}
use Rattle.std.proofs.lemmas.Bool.{cases_lt, cond-true, cond-false, lt-ltb, le-ltb}
use Rattle.fractions.proofs.Powers.{pow_two}
use Rattle.fractions.proofs.Roots.{root_below, root_above}
use Rattle.roots.specs.Division.{up}
use Rattle.roots.specs.Extremes.{Least}
use Rattle.roots.specs.Roots.{root_up_of}
use Rattle.roots.proofs.Quotients.{up_least, up_most}
use Rattle.roots.proofs.Roots.{root_up_is}
use Rattle.forces.specs.declared.opening.Opening.{Opening}
use Rattle.groups.specs.Groups.{apart, weight_on}
use Rattle.groups.specs.Weights.{weight, LowWeight, HighWeight}

-- within the spacing: u is what is left of it, r the root of u over S, up
module _ (S u r : ℕ) (pos : 0 < S) (some : 0 < u) (part : u ≤ S) (is : Least (λ n. u * 10 ^ 12 ≤ n * n * S) r) where
  r_pos : 0 < r
  r_pos =
      let no : r ≤ 0 → ⊥ = λ h. let z : r ≡ 0 = omega arith in let f = subst (λ (n : ℕ). u * 10 ^ 12 ≤ n * n * S) z is.fits in omega arith in
      omega arith

  before : (r - 1) * (r - 1) * S ≤ u * 10 ^ 12
  before =
      ⊎_elim
      (λ (h : u * 10 ^ 12 < (r - 1) * (r - 1) * S). let l = is.least (r - 1) (omega arith) in absurd (omega (arith, l, r_pos)))
      (λ (h : (r - 1) * (r - 1) * S ≤ u * 10 ^ 12). h)
      (cases_lt (u * 10 ^ 12) ((r - 1) * (r - 1) * S))

  covers : (ln ld : ℕ) → ln ^ 2 * S ≤ u * ld ^ 2 → u * ln * 10 ^ 6 ≤ up (u * r) S * (S * ld)
  covers ln ld h =
      let k : ln * 10 ^ 6 ≤ r * ld = root_above 2 u S r (10 ^ 6) ln ld (lit< tt) pos (rw (pow_two r) (omega (arith, is.fits))) h in
      omega (arith, mul-le-mul_left u k, mul-le-mul_right ld (up_least (u * r) S pos))

  near : (hn hd : ℕ) → u * hd ^ 2 ≤ hn ^ 2 * S → up (u * r) S * (S * hd) ≤ u * hn * 10 ^ 6 + 2 * (S * hd)
  near hn hd h =
      let k : (r - 1) * hd ≤ hn * 10 ^ 6 = root_below 2 u S (r - 1) (10 ^ 6) hn hd (lit< tt) pos (rw (pow_two (r - 1)) (omega (arith, before))) h in
      let e : u * (r * hd) ≡ u * ((r - 1) * hd) + u * hd = let q : r ≡ (r - 1) + 1 = omega (arith, r_pos) in let z : r * hd ≡ ((r - 1) + 1) * hd = ap (λ (n : ℕ). n * hd) q in omega (arith, ap (λ (n : ℕ). u * n) z) in
      omega (arith, e, mul-le-mul_left u k, mul-le-mul_right hd (up_most (u * r) S pos), mul-le-mul_right hd part)

  small : up (u * r) S ≤ 1000000
  small =
      let m : r ≤ 10 ^ 6 = is.least (10 ^ 6) (omega arith) in
      let a = mul-le-mul_left u m in
      let b = up_most (u * r) S pos in
      let c = mul-le-mul_right (10 ^ 6) part in
      let d : up (u * r) S * S < 1000001 * S = omega arith in
      let no : 1000001 ≤ up (u * r) S → ⊥ = λ h. omega (arith, mul-le-mul_right S h) in
      omega arith

-- at every distance
weight_within : (S d : ℕ) → d < S → weight S d ≡ up ((S - d) * root_up_of (S - d) S) S
weight_within S d h = cond-true _ _ _ (lt-ltb d S h)

weight_past : (S d : ℕ) → S ≤ d → weight S d ≡ 0
weight_past S d h = cond-false _ _ _ (le-ltb d S h)

module _ (S d : ℕ) (pos : 0 < S) where
  pub weight_covers : (w : LowWeight S d pos) → (S - d) * w.root.above * 1000000 ≤ weight S d * (S * w.root.below)
  weight_covers w =
      ⊎_elim
      (λ (h : d < S). let e = weight_within S d h in rw e (covers S (S - d) (root_up_of (S - d) S) pos (omega arith) (omega arith) (root_up_is (S - d) S (omega arith) (omega arith)) w.root.above w.root.below (omega (arith, w.is_low))))
      (λ (h : S ≤ d). let z : S - d ≡ 0 = omega arith in let y : (S - d) * w.root.above ≡ 0 * w.root.above = ap (λ (n : ℕ). n * w.root.above) z in omega (arith, ap (λ (n : ℕ). n * 1000000) y))
      (cases_lt d S)

  pub weight_near : (w : HighWeight S d pos) → (weight S d - 2) * (S * w.root.below) ≤ (S - d) * w.root.above * 1000000
  weight_near w =
      ⊎_elim
      (λ (h : d < S).
      let e = weight_within S d h in
      let n = near S (S - d) (root_up_of (S - d) S) pos (omega arith) (omega arith) (root_up_is (S - d) S (omega arith) (omega arith)) w.root.above w.root.below (omega (arith, w.is_high)) in
      let m = mul-sub (S * w.root.below) (up ((S - d) * root_up_of (S - d) S) S) 2 in
      rw e (omega arith))
      (λ (h : S ≤ d). let e = weight_past S d h in rw e (omega arith))
      (cases_lt d S)

  pub weight_small : weight S d ≤ 1000000
  weight_small =
      ⊎_elim
      (λ (h : d < S). let e = weight_within S d h in rw e (small S (S - d) (root_up_of (S - d) S) pos (omega arith) (omega arith) (root_up_is (S - d) S (omega arith) (omega arith))))
      (λ (h : S ≤ d). let e = weight_past S d h in rw e (omega arith))
      (cases_lt d S)

-- whatever the anchor, a weight is at most one
own_small : (t : Bool) (w : ℕ) → w ≤ 1000000 → cond t 1000000 w ≤ 1000000
own_small true w h = omega arith
own_small false w h = h

pub weight_on_small : (S : ℕ) → 0 < S → (o : Opening) (k j : ℕ) → weight_on S o k j ≤ 1000000
weight_on_small S pos o k j = own_small (eqb j k) (weight S (apart o k j)) (weight_small S (apart o k j) pos)
