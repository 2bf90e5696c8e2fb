-- The lips of the channel at each bolt.
--   proper_lip f s o        the lower number of the fraction is not 0
--   lip_meaning d v f s c   v N over f, shared below the spacing s
use Rattle.std.specs.Prelude.{◌≡◌, ℕ, ◌*◌, ◌<◌, Bool, true, false, cond, Some, None, Option, nat_lt, refl}
use Rattle.std.proofs.Common.{mul-pos, arith, ltb-true}
use Rattle.fractions.specs.Fractions.{over}
use Rattle.bolts.specs.declared.bolt.Direction.{Direction}
use Rattle.forces.specs.Cases.{Case}
use Rattle.failure.specs.Meanings.{Meaning}
use Rattle.steel_modes.specs.Quotients.{proper_factor}
use Rattle.steel_modes.specs.Bolted.{load_meaning}
use Rattle.steel_modes.specs.Nearby.{nearest_of}
use Rattle.steel_modes.specs.Shared.{lip_above, lip_below, lip_down}
use Rattle.steel_modes.specs.declared.design.PartialFactor.{PartialFactor}

proper_shared : (f : PartialFactor) (s d : ℕ) (t : Bool) → (t ≡ true → d < s) → 0 < cond t (f.hundredths * (2 * s)) f.hundredths
proper_shared f s d false h = proper_factor f
proper_shared f s d true h = let l = h refl in mul-pos (proper_factor f) (omega arith)

pub proper_lip : (f : PartialFactor) (s : ℕ) (o : Option ℕ) → 0 < lip_below f s o
proper_lip f s None = proper_factor f
proper_lip f s (Some d) = proper_shared f s d (nat_lt d s) (ltb-true d s)

abbrev pub lip_meaning : Direction → ℕ → PartialFactor → ℕ → Case → Meaning
lip_meaning d v f s c =
    load_meaning d c (λ i. lip_down v f s (nearest_of c.bolts i))
    (λ i. over (lip_above v s (nearest_of c.bolts i)) (lip_below f s (nearest_of c.bolts i)) (proper_lip f s (nearest_of c.bolts i)))
