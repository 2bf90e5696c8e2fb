-- The forces of a case, and what they are held to.
--   length_of o              the influence length in µm
--   force c d k              the force in mN on the k-th anchor, from 0, in a direction
--   forces c d               the forces on all anchors
--   NeverBelow c d k v       v is at least every low reading of the exact force
--   HardlyAbove c d k v      v is at most a thousandth of the whole load and 1 N above every high reading
--   Accurate c d             both hold of every force
--   Bounded c d              all forces together, however weighted by at most 1, are at most 4,000,000 N
-- A low reading has the lower end of the influence length above the line and the upper end in the sums; a high reading
-- the reverse, its lower end beyond the anchor nearest to each bolt.
use Rattle.std.specs.Prelude.{ℕ, ◌+◌, ◌*◌, ◌<◌, ◌≤◌, List, sum_by}
use Rattle.std.specs.List.{range_with_len}
use Rattle.fractions.specs.Fractions.{AtMost, whole, plus}
use Rattle.influence.specs.Lengths.{influence_length}
use Rattle.influence.specs.Exact.{Ends, low_length, high_length}
use Rattle.bolts.specs.Loads.{total_load}
use Rattle.bolts.specs.declared.bolt.Direction.{Direction}
use Rattle.forces.specs.Cases.{Case, force_by, forces_by, force_read, BeyondAll}
use Rattle.forces.specs.declared.opening.Opening.{Opening}

abbrev pub length_of : Opening → ℕ
length_of o = influence_length o.inertia o.spacing

abbrev pub force : Case → Direction → ℕ → ℕ
force c d k = force_by (length_of c.opening) c d k

abbrev pub forces : Case → Direction → List ℕ
forces c d = forces_by (length_of c.opening) c d

abbrev pub EndsOf : Opening → Type 0
EndsOf o = Ends o.inertia o.spacing

abbrev pub NeverBelow : Case → Direction → ℕ → ℕ → Type 0
NeverBelow c d k v = (e : EndsOf c.opening) → AtMost (force_read (low_length e) (high_length e) c d k) (whole v)

-- a thousandth of the whole load of T newtons is T mN
abbrev pub HardlyAbove : Case → Direction → ℕ → ℕ → Type 0
HardlyAbove c d k v =
    (e : EndsOf c.opening) → BeyondAll (low_length e) c → AtMost (whole v) (plus (force_read (high_length e) (low_length e) c d k) (whole (total_load d c.bolts + 1000)))

pub record Accurate (c : Case) (d : Direction) : Type 0 where
  pub never_below : (k : ℕ) → k < c.opening.anchors → NeverBelow c d k (force c d k)
  pub hardly_above : (k : ℕ) → k < c.opening.anchors → HardlyAbove c d k (force c d k)

-- weights in millionths
pub record Bounded (c : Case) (d : Direction) : Type 0 where
  pub each : (k : ℕ) → k < c.opening.anchors → force c d k ≤ 4000000000
  pub weighted : (w : ℕ → ℕ) → ((k : ℕ) → w k ≤ 1000000) → sum_by (λ k. w k * force c d k) (range_with_len 0 c.opening.anchors) ≤ 1000000 * 4000000000
