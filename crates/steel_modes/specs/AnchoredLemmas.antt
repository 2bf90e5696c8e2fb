-- A mode on anchors keeps what every mode owes.
use Rattle.std.proofs.Common.{ℕ, ◌<◌, ◌≤◌, Bool, true, false, cond, refl, arith}
use Rattle.fractions.specs.Fractions.{Fraction, AtMost, whole, plus}
use Rattle.fractions.proofs.Orders.{at_most_trans, plus_rises, at_most_refl}
use Rattle.influence.specs.Exact.{low_length, high_length}
use Rattle.bolts.specs.Loads.{total_load}
use Rattle.bolts.specs.declared.bolt.Direction.{Direction}
use Rattle.forces.specs.Cases.{Case, Valid, force_read}
use Rattle.forces.specs.Exact.{force}
use Rattle.forces.proofs.Exactness.{accurate, bounded}
use Rattle.failure.specs.Meanings.{Exactly, LawfulAt, excess}
use Rattle.failure.specs.declared.places.Places.{Places}
use Rattle.steel_modes.specs.Quotients.{proper_factor, divided}
use Rattle.steel_modes.specs.Anchored.{force_meaning, on_anchors, nowhere}
use Rattle.steel_modes.specs.declared.design.PartialFactor.{PartialFactor}
use Rattle.failure.proofs.Quotients.{equal_below, equal_above, down_safe, down_close, down_fits}
use Rattle.steel_modes.specs.Enclosing.{ends_of, beyond_all}

-- an effect hardly above an exact one is hardly above each reading that is the same number
pub close_by : (q x : Fraction) (n w : ℕ) → Exactly x q → AtMost (whole n) (plus x (excess w)) → AtMost (whole n) (plus q (excess w))
close_by q x n w e h =
    at_most_trans (whole n) (plus x (excess w)) (plus q (excess w)) h
    (plus_rises x q (excess w) (excess w) (equal_above q x x e (at_most_refl x)) (at_most_refl (excess w)))

pub force_lawful : (p : Places) (d : Direction) (n : ℕ) (f : PartialFactor) (c : Case) → Valid c → n ≤ 200000000000 → (i : ℕ) → i < c.opening.anchors
    → LawfulAt (total_load d c.bolts) (force_meaning p d n f c) i
force_lawful p d n f c v small i here =
    let pos = proper_factor f in
    let a = accurate c d v in
    let e = ends_of c.opening v.opened in
    let w = total_load d c.bolts in
    record {
      effect_fits = (bounded c d v).each i here;
      resistance_fits = down_fits n f.hundredths f.least small;
      some_low_effect = (force_read (low_length e) (high_length e) c d i, (e, refl));
      some_high_effect = (force_read (high_length e) (low_length e) c d i, (e, beyond_all c v, refl));
      some_low_resistance = (divided n f, refl);
      some_high_resistance = (divided n f, refl);
      effect_safe = λ q r. equal_below q (force_read (low_length r.0) (high_length r.0) c d i) (whole (force c d i)) r.1 (a.never_below i here r.0);
      resistance_safe = λ q r. down_safe n f.hundredths pos q r;
      effect_close = λ _ q r.
          close_by q (force_read (high_length r.0) (low_length r.0) c d i) (force c d i) w r.2 (a.hardly_above i here r.0 r.1);
      resistance_close = λ _ q r. down_close n f.hundredths pos q r 0;
    }

pub count_within : (t : Bool) (c : Case) (i : ℕ) → i < (cond t nowhere (on_anchors c)).count → i < c.opening.anchors
count_within true c i h = omega arith
count_within false c i h = h
