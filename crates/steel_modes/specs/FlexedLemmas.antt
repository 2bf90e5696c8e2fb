-- The bending of the channel keeps what every mode owes.
use Rattle.std.proofs.Common.{ℕ, ◌+◌, ◌*◌, ◌<◌, ◌≤◌, length, refl, arith}
use Rattle.fractions.specs.Fractions.{AtMost, whole, plus}
use Rattle.fractions.proofs.Orders.{at_most_trans, at_most_refl, plus_rises, whole_rises}
use Rattle.bolts.specs.Bolts.{bolt_at}
use Rattle.bolts.specs.Loads.{total_load}
use Rattle.bolts.specs.declared.bolt.Direction.TheVariants.{Tension}
use Rattle.bolts.proofs.Bounds.{load_bound}
use Rattle.forces.specs.Cases.{Case, Valid}
use Rattle.failure.specs.Meanings.{LawfulAt, excess}
use Rattle.steel_modes.specs.Quotients.{proper_factor, divided}
use Rattle.steel_modes.specs.Spans.{part_up, part_read, moment_at, moment_read}
use Rattle.steel_modes.specs.Flexed.{flexure_meaning}
use Rattle.steel_modes.specs.declared.design.PartialFactor.{PartialFactor}
use Rattle.failure.proofs.Quotients.{equal_below, down_safe, down_close, down_fits}
use Rattle.steel_modes.specs.AnchoredLemmas.{close_by}
use Rattle.steel_modes.specs.SpanLemmas.{sum_covers, sum_near, part_covers, part_near, moment_le}

pub tension_le : (c : Case) → Valid c → (k : ℕ) → k < length c.bolts → (bolt_at c.bolts k).tension ≤ 200000
tension_le c v k h = load_bound Tension (bolt_at c.bolts k) (v.sound k h).1

module _ (c : Case) (v : Valid c) (i : ℕ) where
  covers : AtMost (moment_read c i) (whole (moment_at c i))
  covers =
      let s = c.opening.spacing in
      let a = bolt_at c.bolts i in
      sum_covers (part_up s a) (part_read s a) (λ b. part_covers s v.opened.wide a b) c.bolts

  near : AtMost (whole (moment_at c i)) (plus (moment_read c i) (whole (length c.bolts)))
  near =
      let s = c.opening.spacing in
      let a = bolt_at c.bolts i in
      sum_near (part_up s a) (part_read s a) (λ b. part_near s v.opened.wide a b) c.bolts

  pub flexure_lawful : (n : ℕ) (f : PartialFactor) → n ≤ 10000 → LawfulAt (total_load Tension c.bolts) (flexure_meaning n f c) i
  flexure_lawful n f small =
      let pos = proper_factor f in
      let w = total_load Tension c.bolts in
      let x = moment_read c i in
      record {
        effect_fits = omega (arith, moment_le c.opening.spacing v.opened.wide v.opened.narrow (bolt_at c.bolts i) c.bolts v.few (tension_le c v));
        resistance_fits = down_fits (n * 100000) f.hundredths f.least (omega arith);
        some_low_effect = (moment_read c i, refl);
        some_high_effect = (moment_read c i, refl);
        some_low_resistance = (divided (n * 100000) f, refl);
        some_high_resistance = (divided (n * 100000) f, refl);
        effect_safe = λ q e. equal_below q (moment_read c i) (whole (moment_at c i)) e covers;
        resistance_safe = λ q e. down_safe (n * 100000) f.hundredths pos q e;
        effect_close = λ _ q e.
            let few : length c.bolts ≤ total_load Tension c.bolts + 1000 = omega (arith, v.few) in
            close_by q x (moment_at c i) w e
            (at_most_trans (whole (moment_at c i)) (plus x (whole (length c.bolts))) (plus x (excess w)) near
            (plus_rises x x (whole (length c.bolts)) (excess w) (at_most_refl x) (whole_rises _ _ few)));
        resistance_close = λ _ q e. down_close (n * 100000) f.hundredths pos q e 0;
      }
