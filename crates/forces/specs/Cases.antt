-- A load case as a reader sees it: the numbers it was opened with, and its bolts. Positions and spacing in tenths,
-- loads in N, forces in mN.
--   reach o                  where the last anchor lies
--   Valid c                  every number in range, at most 16 bolts, 300 tenths or more apart
--   force_by L c d k         the force on the k-th anchor, from 0, with the influence length L
--   forces_by L c d          the forces on all anchors
use Rattle.std.specs.Prelude.{ℕ, ◌-◌, ◌*◌, ◌≤◌, List, map, length, sum_by}
use Rattle.std.specs.List.{range_with_len, AllByRecursion}
use Rattle.fractions.specs.Fractions.{Fraction, total}
use Rattle.bolts.specs.Bolts.{Spaced, Sound}
use Rattle.bolts.specs.Loads.{load_of}
use Rattle.bolts.specs.declared.bolt.Bolt.{Bolt}
use Rattle.bolts.specs.declared.bolt.Direction.{Direction}
use Rattle.forces.specs.Shares.{gap, distances, share}
use Rattle.forces.specs.Readings.{reading, Beyond}
use Rattle.forces.specs.declared.opening.Opening.{Opening}

pub record Case : Type 0 where
  pub opening : Opening
  pub bolts : List Bolt

abbrev pub reach : Opening → ℕ
reach o = (o.anchors - 1) * o.spacing

pub record InRange (o : Opening) : Type 0 where
  pub two : 2 ≤ o.anchors
  pub twelve : o.anchors ≤ 12
  pub wide : 500 ≤ o.spacing
  pub narrow : o.spacing ≤ 2500
  pub stiff : 4000 ≤ o.inertia
  pub slender : o.inertia ≤ 200000

pub record Valid (c : Case) : Type 0 where
  pub opened : InRange c.opening
  pub few : length c.bolts ≤ 16
  pub spaced : Spaced c.bolts
  pub sound : Sound (reach c.opening) c.bolts

-- tenths to µm, N to mN
abbrev pub um : ℕ → ℕ
um tenths = 100 * tenths

abbrev pub mn : ℕ → ℕ
mn newtons = 1000 * newtons

-- how far the anchors lie from a bolt, and how far the k-th one
abbrev pub anchor_distances : Opening → Bolt → List ℕ
anchor_distances o b = distances o.anchors (um o.spacing) (um b.position)

abbrev pub anchor_distance : Opening → Bolt → ℕ → ℕ
anchor_distance o b k = gap (um b.position) (k * um o.spacing)

abbrev pub share_by : ℕ → Opening → Direction → ℕ → Bolt → ℕ
share_by L o d k b = share (mn (load_of d b)) L (anchor_distance o b k) (anchor_distances o b)

abbrev pub force_by : ℕ → Case → Direction → ℕ → ℕ
force_by L c d k = sum_by (share_by L c.opening d k) c.bolts

abbrev pub forces_by : ℕ → Case → Direction → List ℕ
forces_by L c d = map (force_by L c d) (range_with_len 0 c.opening.anchors)

-- the exact force on the k-th anchor, with the end x above the line and the end y in the sums
abbrev pub share_read : Fraction → Fraction → Opening → Direction → ℕ → Bolt → Fraction
share_read x y o d k b = reading (mn (load_of d b)) x y (anchor_distance o b k) (anchor_distances o b)

abbrev pub force_read : Fraction → Fraction → Case → Direction → ℕ → Fraction
force_read x y c d k = total (map (share_read x y c.opening d k) c.bolts)

-- x lies beyond the anchor nearest to each bolt; by recursion on the bolts, as the totals that it is read beside
abbrev pub BeyondAll : Fraction → Case → Type 0
BeyondAll x c = AllByRecursion (λ b. Beyond x (anchor_distances c.opening b)) c.bolts
