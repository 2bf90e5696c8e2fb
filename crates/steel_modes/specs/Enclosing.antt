-- Every case has brackets whose lower length lies beyond the anchor nearest to each bolt.
use Rattle.std.proofs.Common.{ℕ, zero, suc, ◌+◌, ◌*◌, ◌<◌, ◌≤◌, ⊎_elim, mul-le-mul_left, arith, lit<}
use Rattle.std.proofs.lemmas.Bool.{cases_lt}
use Rattle.std.proofs.ByRecursion.{All-weaker}
use Rattle.fractions.specs.Fractions.{whole, over}
use Rattle.fractions.proofs.Powers.{pow_two}
use Rattle.influence.specs.Exact.{low_length}
use Rattle.bolts.specs.declared.bolt.Bolt.{Bolt}
use Rattle.forces.specs.Shares.{distances, spread}
use Rattle.forces.specs.Readings.{Beyond}
use Rattle.forces.specs.Cases.{Case, Valid, InRange, reach, um, anchor_distances, BeyondAll}
use Rattle.forces.specs.Exact.{EndsOf}
use Rattle.forces.specs.declared.opening.Opening.{Opening}
use Rattle.forces.proofs.Spreads.{spread_low}
use Rattle.forces.proofs.Whole.{within, positions}

-- the inertia's root lies between 1 and 2; the spacing's between a sixteenth of it and itself
abbrev pub ends_of : (o : Opening) → InRange o → EndsOf o
ends_of o r =
    record {
      inertia_low = whole 1;
      inertia_high = whole 2;
      spacing_low = over o.spacing 160 (lit< tt);
      spacing_high = whole o.spacing;
      inertia_root = record { not_above = omega (arith, r.stiff); not_below = omega (arith, r.slender) };
      spacing_root = record {
        not_above = rw (pow_two o.spacing) (omega (arith, mul-le-mul_left o.spacing r.narrow));
        not_below = rw (pow_two o.spacing) (omega (arith, mul-le-mul_left o.spacing r.wide));
      };
    }

-- of the two anchors about a place, one lies nearer than 4/5 of the spacing
spread_some : (k s p L : ℕ) → p ≤ k * s → s < 2 * L → 0 < spread L (distances (suc k) s p)
spread_some zero s p L h half = omega arith
spread_some (suc j) s p L h half =
    ⊎_elim
    (λ (past : j * s < p). omega arith)
    (λ (before : p ≤ j * s). omega (arith, spread_some j s p L before half))
    (cases_lt (j * s) p)

spread_any : (n s p L : ℕ) → 0 < n → p + s ≤ n * s → s < 2 * L → 0 < spread L (distances n s p)
spread_any zero s p L h inside half = omega arith
spread_any (suc k) s p L h inside half = spread_some k s p L (omega arith) half

beyond : (o : Opening) (r : InRange o) (b : Bolt) → b.position ≤ reach o → Beyond (low_length (ends_of o r)) (anchor_distances o b)
beyond o r b h =
    let some = spread_any o.anchors (um o.spacing) (um b.position) (81 * o.spacing) (omega (arith, r.two)) (within o r b h) (omega (arith, r.wide)) in
    let low = spread_low (81 * o.spacing) (low_length (ends_of o r)) (omega arith) (anchor_distances o b) in
    omega arith

pub beyond_all : (c : Case) (v : Valid c) → BeyondAll (low_length (ends_of c.opening v.opened)) c
beyond_all c v =
    All-weaker (λ b. b.position ≤ reach c.opening) (λ b. Beyond (low_length (ends_of c.opening v.opened)) (anchor_distances c.opening b))
    (λ b h. beyond c.opening v.opened b h) c.bolts (positions _ c.bolts v.sound)
