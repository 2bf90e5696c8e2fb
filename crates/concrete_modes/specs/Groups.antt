-- The effect of a group is not too great, has readings, and keeps what every mode owes of its effect.
use Rattle.std.proofs.Common.{ℕ, ◌*◌, ◌<◌, ◌≤◌, List, [], ◌∷◌, sum_by, refl, mul-le-mul_right, arith}
use Rattle.std.specs.List.{range_with_len}
use Rattle.std.proofs.lemmas.List.Sums.{sum_by-cons}
use Rattle.fractions.specs.Fractions.{Fraction, AtMost, whole, plus}
use Rattle.roots.specs.Division.{up}
use Rattle.bolts.specs.Loads.{total_load}
use Rattle.bolts.specs.declared.bolt.Direction.{Direction}
use Rattle.forces.specs.Cases.{Case, Valid}
use Rattle.forces.specs.Exact.{force}
use Rattle.forces.proofs.Exactness.{bounded}
use Rattle.failure.specs.Meanings.{excess}
use Rattle.failure.proofs.Quotients.{equal_below}
use Rattle.groups.specs.Groups.{weight_on, part, group_effect, LowChoice, HighChoice, low_effect, high_effect}
use Rattle.groups.specs.declared.spacing.CharacteristicSpacing.{CharacteristicSpacing}
use Rattle.groups.proofs.Effects.{effect_covers, effect_near}
use Rattle.groups.proofs.Weights.{weight_on_small}
use Rattle.steel_modes.specs.Enclosing.{ends_of, beyond_all}
use Rattle.steel_modes.specs.AnchoredLemmas.{close_by}
use Rattle.concrete_modes.specs.Effects.{LowGroup, HighGroup}

scaled : (f g : ℕ → ℕ) (xs : List ℕ) → ((x : ℕ) → f x ≤ g x) → 1000000 * sum_by f xs ≤ sum_by (λ x. 1000000 * g x) xs
scaled f g [] h = omega arith
scaled f g (x ∷ xs) h =
    let a = sum_by-cons f x xs in
    let b = sum_by-cons (λ y. 1000000 * g y) x xs in
    omega (arith, a, b, h x, scaled f g xs h)

part_le : (w F : ℕ) → w ≤ 1000000 → up (w * F) 1000000 ≤ F
part_le w F h = omega (arith, mul-le-mul_right F h)

pub effect_le : (S : ℕ) → 0 < S → (c : Case) (d : Direction) (k : ℕ) → Valid c → group_effect S c d k ≤ 4000000000
effect_le S pos c d k v =
    let a = scaled (part S c d k) (force c d) (range_with_len 0 c.opening.anchors) (λ j. part_le (weight_on S c.opening k j) (force c d j) (weight_on_small S pos c.opening k j)) in
    let b = (bounded c d v).weighted (λ j. 1000000) (λ j. omega arith) in
    omega (arith, a, b)

-- some choice of ends
pub low_choice : (S : ℕ) (pos : 0 < S) (c : Case) (k : ℕ) → Valid c → LowChoice S pos c k
low_choice S pos c k v = record { ends = ends_of c.opening v.opened; weights = λ j. record { root = whole 0; is_low = omega arith } }

pub high_choice : (S : ℕ) (pos : 0 < S) (c : Case) (k : ℕ) → Valid c → HighChoice S pos c k
high_choice S pos c k v = record { ends = ends_of c.opening v.opened; beyond = beyond_all c v; weights = λ j. record { root = whole 1; is_high = omega arith } }

-- the effect of a group against its readings
module _ (S : CharacteristicSpacing) (c : Case) (d : Direction) (i : ℕ) (v : Valid c) where
  pub some_low : (q : Fraction) × LowGroup S c d i q
  some_low = let l = low_choice S.um S.some c i v in (low_effect l d, (l, refl))

  pub some_high : (q : Fraction) × HighGroup S c d i q
  some_high = let h = high_choice S.um S.some c i v in (high_effect h d, (h, refl))

  pub group_safe : (q : Fraction) → LowGroup S c d i q → AtMost q (whole (group_effect S.um c d i))
  group_safe q r =
      equal_below q (low_effect r.0 d) (whole (group_effect S.um c d i)) r.1 (effect_covers S.um S.some c d i v r.0)

  pub group_close : (q : Fraction) → HighGroup S c d i q → AtMost (whole (group_effect S.um c d i)) (plus q (excess (total_load d c.bolts)))
  group_close q r =
      close_by q (high_effect r.0 d) (group_effect S.um c d i) (total_load d c.bolts) r.1 (effect_near S.um S.some c d i v r.0)
