-- A mode on bolts keeps what every mode owes, where its resistance is an exact one rounded down.
use Rattle.std.proofs.Common.{◌≡◌, ℕ, ◌/◌, ◌<◌, ◌≤◌, length, refl, arith}
use Rattle.fractions.specs.Fractions.{Fraction, whole}
use Rattle.bolts.specs.Bolts.{bolt_at}
use Rattle.bolts.specs.Loads.{total_load}
use Rattle.bolts.specs.declared.bolt.Direction.{Direction}
use Rattle.bolts.proofs.Bounds.{load_bound}
use Rattle.forces.specs.Cases.{Case, Valid}
use Rattle.failure.specs.Meanings.{LawfulAt}
use Rattle.steel_modes.specs.Bolted.{load_meaning, load_at}
use Rattle.failure.proofs.Quotients.{down_safe, down_close}

pub load_lawful : (d : Direction) (c : Case) → Valid c → (r : ℕ → ℕ) (x : ℕ → Fraction) (i : ℕ) → i < length c.bolts → r i ≤ 2000000000 → r i ≡ (x i).above / (x i).below
    → LawfulAt (total_load d c.bolts) (load_meaning d c r x) i
load_lawful d c v r x i here fits same =
    let bound = load_bound d (bolt_at c.bolts i) (v.sound i here).1 in
    record {
      effect_fits = omega arith;
      resistance_fits = fits;
      some_low_effect = (whole (load_at c d i), refl);
      some_high_effect = (whole (load_at c d i), refl);
      some_low_resistance = (x i, refl);
      some_high_resistance = (x i, refl);
      effect_safe = λ q e. omega arith;
      resistance_safe = λ q e. rw same (down_safe (x i).above (x i).below (x i).proper q e);
      effect_close = λ _ q e. omega arith;
      resistance_close = λ _ q e. rw same (down_close (x i).above (x i).below (x i).proper q e 0);
    }
