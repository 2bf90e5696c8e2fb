-- The forces of a whole case against their exact readings, and their bounds.
use Rattle.std.proofs.Common.{◌≡◌, ℕ, ◌+◌, ◌-◌, ◌*◌, ◌<◌, ◌≤◌, List, [], ◌∷◌, map, length, sum_by, ap, arith}
use Rattle.std.specs.List.{range_with_len, AllByRecursion}
use Rattle.std.proofs.lemmas.List.Elements.{All-from_get_or, recursion_from_All}
use Rattle.std.proofs.lemmas.List.Sums.{sum_by-cons}
use Rattle.fractions.specs.Fractions.{Fraction, AtMost, whole, plus, total}
use Rattle.fractions.proofs.Totals.{plus_whole, whole_plus}
use Rattle.bolts.proofs.Bounds.{total_load_bound}
use Rattle.bolts.specs.Bolts.{Sound, no_bolt}
use Rattle.bolts.specs.Loads.{load_of, total_load}
use Rattle.bolts.specs.declared.bolt.Bolt.{Bolt}
use Rattle.bolts.specs.declared.bolt.Direction.{Direction}
use Rattle.forces.specs.Readings.{Beyond}
use Rattle.forces.specs.Cases.{InRange, reach, um, anchor_distances, share_by, share_read}
use Rattle.forces.specs.declared.opening.Opening.{Opening}
use Rattle.forces.proofs.Accuracy.{share_covers, share_near}
use Rattle.forces.proofs.Sums.{sum_by_swap, shares_le}

shuffle : (r R : Fraction) (m n v : ℕ) → AtMost (whole v) (plus (plus r (whole m)) (plus R (whole n))) → AtMost (whole v) (plus (plus r R) (whole (m + n)))
shuffle r R m n v h = omega arith

-- a bolt lies between the first and the last anchor
pub within : (o : Opening) → InRange o → (b : Bolt) → b.position ≤ reach o → um b.position + um o.spacing ≤ o.anchors * um o.spacing
within o ranged b h =
    let t : 2 ≤ o.anchors = ranged.two in
    let e : o.anchors ≡ (o.anchors - 1) + 1 = omega arith in
    let f : o.anchors * o.spacing ≡ ((o.anchors - 1) + 1) * o.spacing = ap (λ (n : ℕ). n * o.spacing) e in
    omega arith

-- a row of anchors, an anchor of it, and a length between two ends
module _ (L : ℕ) (o : Opening) (d : Direction) (x y : Fraction) (ranged : InRange o) (wider : um o.spacing ≤ L) (long : 66000 ≤ L) (low : AtMost x (whole (L + 5))) (high : AtMost (whole L) y) (k : ℕ) (here : k < o.anchors) where
  pub force_covers : (bolts : List Bolt) → AllByRecursion (λ b. b.position ≤ reach o) bolts → AtMost (total (map (share_read x y o d k) bolts)) (whole (sum_by (share_by L o d k) bolts))
  force_covers [] all = omega arith
  force_covers (b ∷ bs) (h, all) =
      let one = share_covers (load_of d b) L o.anchors (um o.spacing) (um b.position) k x y here ranged.twelve (within o ranged b h) wider long low high in
      let rest = force_covers bs all in
      let e = sum_by-cons (share_by L o d k) b bs in
      rw e (plus_whole (share_read x y o d k b) (total (map (share_read x y o d k) bs)) (share_by L o d k b) (sum_by (share_by L o d k) bs) one rest)

  pub force_near : (bolts : List Bolt) → AllByRecursion (λ b. b.position ≤ reach o) bolts → AllByRecursion (λ b. Beyond x (anchor_distances o b)) bolts → AtMost (whole (sum_by (share_by L o d k) bolts)) (plus (total (map (share_read y x o d k) bolts)) (whole (total_load d bolts + length bolts)))
  force_near [] all past = omega arith
  force_near (b ∷ bs) (h, all) (p, past) =
      let one = share_near (load_of d b) L o.anchors (um o.spacing) (um b.position) k x y here ranged.twelve (within o ranged b h) wider long low high p in
      let rest = force_near bs all past in
      let e = sum_by-cons (share_by L o d k) b bs in
      let t = sum_by-cons (load_of d) b bs in
      let r : Fraction = share_read y x o d k b in
      let R : Fraction = total (map (share_read y x o d k) bs) in
      let v : ℕ = share_by L o d k b + sum_by (share_by L o d k) bs in
      let both = whole_plus (plus r (whole (load_of d b + 1))) (plus R (whole (total_load d bs + length bs))) (share_by L o d k b) (sum_by (share_by L o d k) bs) one rest in
      let sum = shuffle r R (load_of d b + 1) (total_load d bs + length bs) v both in
      let m : total_load d (b ∷ bs) + length (b ∷ bs) ≡ (load_of d b + 1) + (total_load d bs + length bs) = omega arith in
      rw (e, m) sum

pub positions : (r : ℕ) (bolts : List Bolt) → Sound r bolts → AllByRecursion (λ b. b.position ≤ r) bolts
positions r bolts s = recursion_from_All (λ b. b.position ≤ r) bolts (All-from_get_or (λ b. b.position ≤ r) bolts no_bolt (λ i h. (s i h).0))

-- all forces of a case together
module _ (L : ℕ) (o : Opening) (d : Direction) (ranged : InRange o) (wider : um o.spacing ≤ L) (long : 66000 ≤ L) where
  pub all_shares : (bolts : List Bolt) → AllByRecursion (λ b. b.position ≤ reach o) bolts → sum_by (λ b. sum_by (λ k. share_by L o d k b) (range_with_len 0 o.anchors)) bolts ≤ 1001 * total_load d bolts + 12 * length bolts
  all_shares [] all = omega arith
  all_shares (b ∷ bs) (h, all) =
      let one = shares_le (load_of d b) L o.anchors (um o.spacing) (um b.position) (omega (arith, ranged.two)) ranged.twelve (within o ranged b h) wider long in
      let rest = all_shares bs all in
      let e = sum_by-cons (λ z. sum_by (λ k. share_by L o d k z) (range_with_len 0 o.anchors)) b bs in
      let t = sum_by-cons (load_of d) b bs in
      omega arith

  pub forces_le : (bolts : List Bolt) → Sound (reach o) bolts → length bolts ≤ 16 → sum_by (λ k. sum_by (share_by L o d k) bolts) (range_with_len 0 o.anchors) ≤ 4000000000
  forces_le bolts s few =
      let a = sum_by_swap (λ b k. share_by L o d k b) bolts (range_with_len 0 o.anchors) in
      let b = all_shares bolts (positions (reach o) bolts s) in
      let c = total_load_bound d (reach o) bolts s few in
      omega arith
