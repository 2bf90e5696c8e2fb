-- How a rule scales the resistances of the mode below it.
--   Ratios                    the ratio of the actual to the characteristic distance, by case, kind of places and place
--   Scaling                   not at all, by the ratio, or by its square root
--   allowed s a               the allowance under the rule, where that of the mode below is a
--   scaled s c kind i r       the resistance at the place i, where that of the mode below is r
--   low_scaled, high_scaled   the readings of it, where those of the mode below are R
--   under s c m               the mode m under the rule, in the case c: with a ratio `straight_meaning` of the ratios at its
--                             places, with a root `root_meaning`, else m
--   RootsInRange s            a square root is taken only of ratios of 25,000 µm or more to 2,500,000 µm or less
--   maybe_scaling scaling r   the scaling of a rule that may be there
use Rattle.std.specs.Prelude.{ℕ, ◌≤◌, Some, None, Option}
use Rattle.forces.specs.Cases.{Case}
use Rattle.fractions.specs.Fractions.{Fraction}
use Rattle.failure.specs.Meanings.{Readings, Exactly, Meaning}
use Rattle.failure.specs.Reductions.{raised, straight_reduced, root_reduced, LowRoot, HighRoot, TimesBelowOne}
use Rattle.failure.specs.declared.places.PlaceKind.{PlaceKind}

abbrev pub Ratios : Type 0
Ratios = Case → PlaceKind → ℕ → Fraction

pub data Scaling : Type 0 where
  Unscaled : Scaling
  ByRatio : Ratios → Scaling
  ByRoot : Ratios → Scaling

abbrev pub allowed : Scaling → ℕ → ℕ
allowed Unscaled a = a
allowed (ByRatio x) a = raised a
allowed (ByRoot x) a = raised a

abbrev pub scaled : Scaling → Case → PlaceKind → ℕ → ℕ → ℕ
scaled Unscaled c kind i r = r
scaled (ByRatio x) c kind i r = straight_reduced (x c kind i).above (x c kind i).below r
scaled (ByRoot x) c kind i r = root_reduced (x c kind i).above (x c kind i).below r

abbrev pub low_scaled : Scaling → Case → PlaceKind → ℕ → Readings → Readings
low_scaled Unscaled c kind i R = R
low_scaled (ByRatio x) c kind i R = TimesBelowOne (x c kind i) (Exactly (x c kind i)) R
low_scaled (ByRoot x) c kind i R = TimesBelowOne (x c kind i) (LowRoot (x c kind i)) R

abbrev pub high_scaled : Scaling → Case → PlaceKind → ℕ → Readings → Readings
high_scaled Unscaled c kind i R = R
high_scaled (ByRatio x) c kind i R = TimesBelowOne (x c kind i) (Exactly (x c kind i)) R
high_scaled (ByRoot x) c kind i R = TimesBelowOne (x c kind i) (HighRoot (x c kind i)) R

abbrev pub under : Scaling → Case → Meaning → Meaning
under s c m = record {
  places = m.places;
  allowance = allowed s m.allowance;
  direction = m.direction;
  effect = m.effect;
  resistance = λ i. scaled s c m.places.kind i (m.resistance i);
  low_effect = m.low_effect;
  high_effect = m.high_effect;
  low_resistance = λ i. low_scaled s c m.places.kind i (m.low_resistance i);
  high_resistance = λ i. high_scaled s c m.places.kind i (m.high_resistance i);
}

abbrev pub RootsInRange : Scaling → Type 0
RootsInRange Unscaled = Unit {0}
RootsInRange (ByRatio x) = Unit {0}
RootsInRange (ByRoot x) = (c : Case) (kind : PlaceKind) (i : ℕ) → (25000 ≤ (x c kind i).above) × ((x c kind i).below ≤ 2500000)

-- the rule where there is one
abbrev pub maybe_scaling : {R : Type 0} → (R → Scaling) → Option R → Scaling
maybe_scaling scaling None = Unscaled
maybe_scaling scaling (Some r) = scaling r
