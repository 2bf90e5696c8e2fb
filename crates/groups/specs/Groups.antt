-- The effect on an anchor of a group, in mN.
--   apart o k j              how far two anchors lie apart, in µm
--   part S c d k j           what the j-th anchor gives the k-th: its force, or the weighted force of a neighbour, up
--   group-effect S c d k     the sum over all anchors
--   Choice S c k             ends of the influence length, and of the root in each neighbour's weight
--   low-effect, high-effect  the exact effect at a choice of lower, or upper, ends
use Rattle.std.specs.Prelude.{ℕ, ◌+◌, ◌*◌, ◌<◌, Bool, true, false, cond, map, sum_by, ◌==◌}
use Rattle.std.specs.List.{range_with_len}
use Rattle.fractions.specs.Fractions.{Fraction, AtMost, whole, plus, times, total}
use Rattle.influence.specs.Exact.{low_length, high_length}
use Rattle.roots.specs.Division.{up}
use Rattle.bolts.specs.Loads.{total_load}
use Rattle.bolts.specs.declared.bolt.Direction.{Direction}
use Rattle.forces.specs.Shares.{gap}
use Rattle.forces.specs.Cases.{Case, um, force_read, BeyondAll}
use Rattle.forces.specs.Exact.{force, EndsOf}
use Rattle.forces.specs.declared.opening.Opening.{Opening}
use Rattle.groups.specs.Weights.{weight, LowWeight, HighWeight, low_weight, high_weight}

abbrev pub apart : Opening → ℕ → ℕ → ℕ
apart o k j = gap (k * um o.spacing) (j * um o.spacing)

-- the weight of the j-th anchor's force on the k-th, in millionths; its own counts whole
abbrev pub weight_on : ℕ → Opening → ℕ → ℕ → ℕ
weight_on S o k j = cond (j == k) 1000000 (weight S (apart o k j))

abbrev pub part : ℕ → Case → Direction → ℕ → ℕ → ℕ
part S c d k j = up (weight_on S c.opening k j * force c d j) 1000000

abbrev pub group_effect : ℕ → Case → Direction → ℕ → ℕ
group_effect S c d k = sum_by (part S c d k) (range_with_len 0 c.opening.anchors)

-- the anchor's own force has no weight to read
abbrev pub own_or : Bool → Fraction → Fraction
own_or true w = whole 1
own_or false w = w

pub record LowChoice (S : ℕ) (pos : 0 < S) (c : Case) (k : ℕ) : Type 0 where
  pub ends : EndsOf c.opening
  pub weights : (j : ℕ) → LowWeight S (apart c.opening k j) pos

pub record HighChoice (S : ℕ) (pos : 0 < S) (c : Case) (k : ℕ) : Type 0 where
  pub ends : EndsOf c.opening
  pub beyond : BeyondAll (low_length ends) c
  pub weights : (j : ℕ) → HighWeight S (apart c.opening k j) pos

abbrev pub low_part : {S : ℕ} {pos : 0 < S} {c : Case} {k : ℕ} → LowChoice S pos c k → Direction → ℕ → Fraction
low_part {c = c} {k = k} h d j =
    times (own_or (j == k) (low_weight (h.weights j))) (force_read (low_length h.ends) (high_length h.ends) c d j)

abbrev pub high_part : {S : ℕ} {pos : 0 < S} {c : Case} {k : ℕ} → HighChoice S pos c k → Direction → ℕ → Fraction
high_part {c = c} {k = k} h d j =
    times (own_or (j == k) (high_weight (h.weights j))) (force_read (high_length h.ends) (low_length h.ends) c d j)

abbrev pub low_effect : {S : ℕ} {pos : 0 < S} {c : Case} {k : ℕ} → LowChoice S pos c k → Direction → Fraction
low_effect {c = c} h d = total (map (low_part h d) (range_with_len 0 c.opening.anchors))

abbrev pub high_effect : {S : ℕ} {pos : 0 < S} {c : Case} {k : ℕ} → HighChoice S pos c k → Direction → Fraction
high_effect {c = c} h d = total (map (high_part h d) (range_with_len 0 c.opening.anchors))

-- v is at least every low reading of the effect
abbrev pub NeverBelowGroup : (S : ℕ) → 0 < S → Case → Direction → ℕ → ℕ → Type 0
NeverBelowGroup S pos c d k v = (h : LowChoice S pos c k) → AtMost (low_effect h d) (whole v)

-- v is at most a thousandth of the whole load and 1 N above every high reading
abbrev pub HardlyAboveGroup : (S : ℕ) → 0 < S → Case → Direction → ℕ → ℕ → Type 0
HardlyAboveGroup S pos c d k v =
    (h : HighChoice S pos c k) → AtMost (whole v) (plus (high_effect h d) (whole (total_load d c.bolts + 1000)))
