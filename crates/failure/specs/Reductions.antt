-- Reductions of a resistance by the ratio x of an actual distance A to a characteristic distance B, both in µm:
-- where A is less, the resistance is multiplied, and rounded down; elsewhere it stays.
--   actual_fits a                 25,000 to 10,000,000 µm
--   characteristic_fits b         25,000 to 2,500,000 µm
--   in_range a b                  both
--   raised a                      the allowance with one reduction more, at most 2,000
--   straight_reduced a b r        r times A/B;   root_reduced a b r: r times the root of A/B, in millionths down
--   LowRoot x, HighRoot x         the low and the high ends of brackets of the square root of x
--   Times F R                     the readings R, each times each of F
--   reduced n L H x m             the mode m with its resistance reduced: the number is n a b r, and its readings are
--                                 those below times the factors L x and H x, at each place whose ratio x is below 1
--   straight_meaning x m, root_meaning x m   the mode m under the reduction by the ratios x, by place
use Rattle.std.specs.Prelude.{ℕ, ◌+◌, ◌*◌, ◌/◌, min, Bool, cond, ◌&&◌, nat_le, nat_lt}
use Rattle.fractions.specs.Fractions.{Fraction, times, PowerAtMost, PowerAtLeast}
use Rattle.roots.specs.Roots.{root_down_of}
use Rattle.failure.specs.Meanings.{Readings, Exactly, Meaning}

abbrev pub actual_fits : ℕ → Bool
actual_fits a = nat_le 25000 a && nat_le a 10000000

abbrev pub characteristic_fits : ℕ → Bool
characteristic_fits b = nat_le 25000 b && nat_le b 2500000

abbrev pub in_range : ℕ → ℕ → Bool
in_range a b = actual_fits a && characteristic_fits b

abbrev pub raised : ℕ → ℕ
raised a = min (a + 50) 2000

abbrev pub straight_reduced : ℕ → ℕ → ℕ → ℕ
straight_reduced a b r = cond (nat_lt a b) (r * a / b) r

abbrev pub root_reduced : ℕ → ℕ → ℕ → ℕ
root_reduced a b r = cond (nat_lt a b) (r * root_down_of a b / 1000000) r

abbrev pub LowRoot : Fraction → Readings
LowRoot x l = PowerAtMost 2 l x

abbrev pub HighRoot : Fraction → Readings
HighRoot x h = PowerAtLeast 2 h x

abbrev pub Times : Readings → Readings → Readings
Times F R p = (q : Fraction) × (l : Fraction) × R q × F l × Exactly (times q l) p

abbrev pub below_one : Fraction → Bool
below_one x = nat_lt x.above x.below

-- the readings R, times the factors F where the ratio x is below 1
abbrev pub TimesBelowOne : Fraction → Readings → Readings → Readings
TimesBelowOne x F R = cond (below_one x) (Times F R) R

abbrev pub reduced : (ℕ → ℕ → ℕ → ℕ) → (Fraction → Readings) → (Fraction → Readings) → (ℕ → Fraction) → Meaning → Meaning
reduced n L H x m = record {
  places = m.places;
  allowance = raised m.allowance;
  direction = m.direction;
  effect = m.effect;
  resistance = λ i. n (x i).above (x i).below (m.resistance i);
  low_effect = m.low_effect;
  high_effect = m.high_effect;
  low_resistance = λ i. TimesBelowOne (x i) (L (x i)) (m.low_resistance i);
  high_resistance = λ i. TimesBelowOne (x i) (H (x i)) (m.high_resistance i);
}

abbrev pub straight_meaning : (ℕ → Fraction) → Meaning → Meaning
straight_meaning x m = reduced straight_reduced Exactly Exactly x m

abbrev pub root_meaning : (ℕ → Fraction) → Meaning → Meaning
root_meaning x m = reduced root_reduced LowRoot HighRoot x m
