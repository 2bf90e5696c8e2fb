-- What a failure mode means: the numbers that its code gives, and what they are held to. Effects and resistances are
-- in mN, for bending in thousandths of a newton-metre; places count from 0.
--   Readings                what an exact number may be read as, by the brackets that enclose it
--   Exactly x               the readings of a number that is the fraction x: just those that are the same number
--   Meaning                 the places, numbers and readings of a mode for one case
--   at_place n f i          the number at the place i of n; none past the last
--   effect_at, resistance_at   the effect, or the resistance, of a mode at a place; none past the last
--   excess w, shortfall a q how far an effect may lie above its reading, and a resistance below its reading q
--   LawfulAt w m i          the numbers at the place i are safe and close, with w the whole load in N
--   Lawful c m              so they are at every place
--   Alike m n               the same allowance and direction
use Rattle.std.specs.Prelude.{◌≡◌, ℕ, ◌+◌, ◌*◌, ◌/◌, ◌<◌, ◌≤◌, cond, Some, None, Option, nat_lt}
use Rattle.std.proofs.Common.{lit<}
use Rattle.fractions.specs.Fractions.{Fraction, AtMost, whole, over, plus, times}
use Rattle.bolts.specs.Loads.{total_load}
use Rattle.bolts.specs.declared.bolt.Direction.{Direction}
use Rattle.forces.specs.Cases.{Case}
use Rattle.failure.specs.declared.places.Places.{Places}

abbrev pub Readings : Type 1
Readings = Fraction → Type 0

abbrev pub Exactly : Fraction → Readings
Exactly x q = q.above * x.below ≡ x.above * q.below

-- the allowance in millionths
pub record Meaning : Type 1 where
  pub places : Places
  pub allowance : ℕ
  pub direction : Direction
  pub effect : ℕ → ℕ
  pub resistance : ℕ → ℕ
  pub low_effect : ℕ → Readings
  pub high_effect : ℕ → Readings
  pub low_resistance : ℕ → Readings
  pub high_resistance : ℕ → Readings

abbrev pub at_place : ℕ → (ℕ → ℕ) → ℕ → Option ℕ
at_place n f i = cond (nat_lt i n) (Some (f i)) None

abbrev pub effect_at : Meaning → ℕ → Option ℕ
effect_at m i = at_place m.places.count m.effect i

abbrev pub resistance_at : Meaning → ℕ → Option ℕ
resistance_at m i = at_place m.places.count m.resistance i

-- a thousandth of the whole load of w N, which is w mN, and 1 N
abbrev pub excess : ℕ → Fraction
excess w = whole (w + 1000)

-- a millionths of q, 1 N, and 1 mN for each full 50 of a
abbrev pub shortfall : ℕ → Fraction → Fraction
shortfall a q = plus (times (over a 1000000 (lit< tt)) q) (whole (1000 + a / 50))

-- safe: no effect below its low readings, no resistance above its high ones; close: while the allowance is below 2,000
pub record LawfulAt (w : ℕ) (m : Meaning) (i : ℕ) : Type 0 where
  pub effect_fits : m.effect i ≤ 4000000000
  pub resistance_fits : m.resistance i ≤ 2000000000
  pub some_low_effect : (q : Fraction) × m.low_effect i q
  pub some_high_effect : (q : Fraction) × m.high_effect i q
  pub some_low_resistance : (q : Fraction) × m.low_resistance i q
  pub some_high_resistance : (q : Fraction) × m.high_resistance i q
  pub effect_safe : (q : Fraction) → m.low_effect i q → AtMost q (whole (m.effect i))
  pub resistance_safe : (q : Fraction) → m.high_resistance i q → AtMost (whole (m.resistance i)) q
  pub effect_close : m.allowance < 2000 → (q : Fraction) → m.high_effect i q → AtMost (whole (m.effect i)) (plus q (excess w))
  pub resistance_close : m.allowance < 2000 → (q : Fraction) → m.low_resistance i q → AtMost q (plus (whole (m.resistance i)) (shortfall m.allowance q))

abbrev pub Lawful : Case → Meaning → Type 0
Lawful c m = (i : ℕ) → i < m.places.count → LawfulAt (total_load m.direction c.bolts) m i

abbrev pub Alike : Meaning → Meaning → Type 0
Alike m n = (m.allowance ≡ n.allowance) × (m.direction ≡ n.direction)
