-- The moment at a bolt against the exact one, and its bound.
use Rattle.std.proofs.Common.{◌≡◌, ℕ, ◌+◌, ◌-◌, ◌*◌, ◌%◌, ◌<◌, ◌≤◌, min, Bool, true, false, cond, List, [], ◌∷◌, map, length, sum_by, mul-le-mul, mul-le-mul_right, arith}
use Rattle.std.proofs.Math.Nat.{div-le_of_le-mul}
use Rattle.std.proofs.ByRecursion.{All-from_get_or, sum_by_le}
use Rattle.std.proofs.lemmas.List.Sums.{sum_by-cons}
use Rattle.fractions.specs.Fractions.{Fraction, AtMost, whole, plus, total}
use Rattle.fractions.proofs.Totals.{plus_whole, whole_plus}
use Rattle.bolts.specs.Bolts.{bolt_at, no_bolt}
use Rattle.bolts.specs.declared.bolt.Bolt.{Bolt}
use Rattle.roots.specs.Division.{up}
use Rattle.forces.specs.Readings.{quotient}
use Rattle.forces.specs.Cases.{um, mn}
use Rattle.roots.proofs.Quotients.{up_least, up_most}
use Rattle.steel_modes.specs.Spans.{greater, offset, same_span, part_above, part_below, part_up, part_read}

shuffle : (r R : Fraction) (m n v : ℕ) → AtMost (whole v) (plus (plus r (whole m)) (plus R (whole n))) → AtMost (whole v) (plus (plus r R) (whole (m + n)))
shuffle r R m n v h = omega arith

-- a sum of parts, each at least its exact part and at most 1 above it
module _ (f : Bolt → ℕ) (g : Bolt → Fraction) where
  pub sum_covers : ((b : Bolt) → AtMost (g b) (whole (f b))) → (bs : List Bolt) → AtMost (total (map g bs)) (whole (sum_by f bs))
  sum_covers h [] = omega arith
  sum_covers h (b ∷ bs) =
      let e = sum_by-cons f b bs in
      rw e (plus_whole (g b) (total (map g bs)) (f b) (sum_by f bs) (h b) (sum_covers h bs))

  pub sum_near : ((b : Bolt) → AtMost (whole (f b)) (plus (g b) (whole 1))) → (bs : List Bolt) → AtMost (whole (sum_by f bs)) (plus (total (map g bs)) (whole (length bs)))
  sum_near h [] = omega arith
  sum_near h (b ∷ bs) =
      let e = sum_by-cons f b bs in
      let R : Fraction = total (map g bs) in
      let both = whole_plus (plus (g b) (whole 1)) (plus R (whole (length bs))) (f b) (sum_by f bs) (h b) (sum_near h bs) in
      let sum = shuffle (g b) R 1 (length bs) (f b + sum_by f bs) both in
      let m : length (b ∷ bs) ≡ 1 + length bs = omega arith in
      rw (e, m) sum

-- a quotient rounded up
covers : (n d : ℕ) → 0 < d → AtMost (quotient n d) (whole (up n d))
covers n d p = let e : (d - 1) + 1 ≡ d = omega arith in rw e (omega (arith, up_least n d p))

near : (n d : ℕ) → 0 < d → AtMost (whole (up n d)) (plus (quotient n d) (whole 1))
near n d p = let e : (d - 1) + 1 ≡ d = omega arith in rw e (omega (arith, up_most n d p))

up_le : (n d m : ℕ) → 0 < d → n ≤ m * d → up n d ≤ m + 1
up_le n d m p h = div-le_of_le-mul d (omega arith)

module _ (s : ℕ) (wide : 500 ≤ s) (a b : Bolt) where
  below_pos : 0 < part_below s
  below_pos = omega arith

  pub part_covers : AtMost (part_read s a b) (whole (part_up s a b))
  part_covers = step (same_span s a b)
    where
      step : (t : Bool) → AtMost (cond t (quotient (part_above s a b) (part_below s)) (whole 0)) (whole (cond t (up (part_above s a b) (part_below s)) 0))
      step true = covers (part_above s a b) (part_below s) below_pos
      step false = omega arith

  pub part_near : AtMost (whole (part_up s a b)) (plus (part_read s a b) (whole 1))
  part_near = step (same_span s a b)
    where
      step : (t : Bool) → AtMost (whole (cond t (up (part_above s a b) (part_below s)) 0)) (plus (cond t (quotient (part_above s a b) (part_below s)) (whole 0)) (whole 1))
      step true = near (part_above s a b) (part_below s) below_pos
      step false = omega arith

  module _ (narrow : s ≤ 2500) (loaded : b.tension ≤ 200000) where
    above_le : (F x y : ℕ) → F ≤ 200000000 → x ≤ 250000 → y ≤ um s → F * x * y ≤ 50000000 * part_below s
    above_le F x y h k l =
        let m : F * x ≤ 200000000 * 250000 = mul-le-mul h k in
        let n : F * x * y ≤ (200000000 * 250000) * um s = mul-le-mul m l in
        omega arith

    offset_le : (p : ℕ) → um (p % s) < um s
    offset_le p = omega arith

    pub part_le : part_up s a b ≤ 50000001
    part_le = step (same_span s a b)
      where
        step : (t : Bool) → cond t (up (part_above s a b) (part_below s)) 0 ≤ 50000001
        step true =
            up_le (part_above s a b) (part_below s) 50000000 below_pos
            (above_le (mn b.tension) (min (offset s a) (offset s b)) (um s - greater (offset s a) (offset s b)) (omega arith) (omega (arith, offset_le a.position)) (omega arith))
        step false = omega arith

-- at most 16 bolts
pub moment_le : (s : ℕ) → 500 ≤ s → s ≤ 2500 → (a : Bolt) (bs : List Bolt) → length bs ≤ 16 → ((k : ℕ) → k < length bs → (bolt_at bs k).tension ≤ 200000) → sum_by (part_up s a) bs ≤ 800000016
moment_le s wide narrow a bs few loaded =
    let each = All-from_get_or (λ b. part_up s a b ≤ 50000001) bs no_bolt (λ k h. part_le s wide a (bolt_at bs k) narrow (loaded k h)) in
    omega (arith, sum_by_le (part_up s a) 50000001 bs each, mul-le-mul_right 50000001 few)
