-- The forces of every case are accurate and bounded.
use Rattle.std.proofs.Common.{◌≡◌, ℕ, ◌+◌, ◌*◌, ◌≤◌, length, get_or, sum_by, ap, arith}
use Rattle.std.specs.List.{range_with_len}
use Rattle.std.proofs.lemmas.List.FromFn.{length-range_with_len, get_or-range_with_len}
use Rattle.std.proofs.lemmas.List.Sums.{get_or-le-sum_by}
use Rattle.fractions.specs.Fractions.{whole, plus}
use Rattle.fractions.proofs.Orders.{at_most_trans, plus_rises, at_most_refl, whole_rises}
use Rattle.influence.specs.Lengths as lengths
use Rattle.influence.specs.Exact.{low_length, high_length}
use Rattle.influence.proofs.Lengths.{length_not_above, length_not_below, length_at_least, length_past_spacing}
use Rattle.bolts.specs.Loads.{total_load}
use Rattle.bolts.specs.declared.bolt.Direction.{Direction}
use Rattle.forces.specs.Cases.{Case, Valid, InRange, share_by, force_read}
use Rattle.forces.specs.Exact.{length_of, force, Accurate, Bounded}
use Rattle.forces.specs.declared.opening.Opening.{Opening}
use Rattle.forces.proofs.Whole.{force_covers, force_near, positions, forces_le, all_shares}
use Rattle.forces.proofs.Sums.{weighted_le, sum_by_swap}

channel : (o : Opening) → InRange o → lengths.InRange o.inertia o.spacing
channel o r = record { stiff = r.stiff; slender = r.slender; wide = r.wide; narrow = r.narrow }

-- longer than the accuracy of a share needs
long : (i s : ℕ) → lengths.InRange i s → 66000 ≤ lengths.influence_length i s
long i s r = omega (arith, length_at_least i s r)

pub accurate : (c : Case) (d : Direction) → Valid c → Accurate c d
accurate c d v =
    let o : Opening = c.opening in
    let i : ℕ = o.inertia in
    let s : ℕ = o.spacing in
    let r = channel o v.opened in
    let L : ℕ = length_of o in
    let all = positions _ c.bolts v.sound in
    record {
      never_below = λ k h e. force_covers L o d (low_length e) (high_length e) v.opened (length_past_spacing i s r) (long i s r) (length_not_below i s r e) (length_not_above i s r e) k h c.bolts all;
      hardly_above = λ k h e past.
          let near = force_near L o d (low_length e) (high_length e) v.opened (length_past_spacing i s r) (long i s r) (length_not_below i s r e) (length_not_above i s r e) k h c.bolts all past in
          let few : total_load d c.bolts + length c.bolts ≤ total_load d c.bolts + 1000 = omega (arith, v.few) in
          let R = force_read (high_length e) (low_length e) c d k in
          at_most_trans (whole (force c d k)) (plus R (whole (total_load d c.bolts + length c.bolts))) (plus R (whole (total_load d c.bolts + 1000))) near (plus_rises R R (whole (total_load d c.bolts + length c.bolts)) (whole (total_load d c.bolts + 1000)) (at_most_refl R) (whole_rises _ _ few));
    }

pub bounded : (c : Case) (d : Direction) → Valid c → Bounded c d
bounded c d v =
    let o : Opening = c.opening in
    let r = channel o v.opened in
    let n : ℕ = o.anchors in
    let all : sum_by (force c d) (range_with_len 0 n) ≤ 4000000000 = forces_le (length_of o) o d v.opened (length_past_spacing o.inertia o.spacing r) (long o.inertia o.spacing r) c.bolts v.sound v.few in
    record {
      each = λ k h.
          let at : get_or (range_with_len 0 n) k 0 ≡ k = omega (arith, get_or-range_with_len 0 n k 0 h) in
          let le = get_or-le-sum_by (force c d) (range_with_len 0 n) k 0 (omega (arith, length-range_with_len 0 n)) in
          omega (arith, ap (force c d) at, le, all);
      weighted = λ w small. let b = weighted_le 1000000 w (force c d) (range_with_len 0 n) small in omega (arith, b, all);
    }

-- all forces of a case together, against its whole load
pub forces_sum : (c : Case) (d : Direction) → Valid c → sum_by (force c d) (range_with_len 0 c.opening.anchors) ≤ 1001 * total_load d c.bolts + 12 * length c.bolts
forces_sum c d v =
    let o : Opening = c.opening in
    let r = channel o v.opened in
    let a = sum_by_swap (λ b k. share_by (length_of o) o d k b) c.bolts (range_with_len 0 o.anchors) in
    let b = all_shares (length_of o) o d v.opened (length_past_spacing o.inertia o.spacing r) (long o.inertia o.spacing r) c.bolts (positions _ c.bolts v.sound) in
    omega arith
