-- The meanings of the types of reductions, where `means` is that of the mode below.
--   straight_of means s c, root_of means s c, corner_of means s c   the mode below under the reduction
--   maybe_of means s c                                              the same as straight_of where the rule is there, else the
--                                                                   mode below as it is (`maybe_there`, `maybe_alone`)
--   straight_is                                                     the straight reduction is its rule's scaling of the mode below
use Rattle.std.specs.Prelude.{◌≡◌, Some, None, Option, refl}
use Rattle.forces.specs.Cases.{Case}
use Rattle.failure.specs.Meanings.{Meaning}
use Rattle.failure.specs.Reductions.{straight_meaning, root_meaning}
use Rattle.failure.specs.Corners.{corner_meaning}
use Rattle.failure.specs.Distances.{ratio_of}
use Rattle.failure.specs.Scalings.{Scaling, ByRatio, maybe_scaling, under}
use Rattle.failure.specs.declared.reduced.Reduced.{Reduced}
use Rattle.failure.specs.declared.straight.Straight.{Straight}
use Rattle.failure.specs.declared.root.Root.{Root}
use Rattle.failure.specs.declared.corner.Corner.{Corner}

abbrev pub straight_of : {M : Type 0} → (M → Case → Meaning) → Reduced M Straight → Case → Meaning
straight_of means s c = straight_meaning (λ _. ratio_of s.rule.distances) (means s.below c)

abbrev pub root_of : {M : Type 0} → (M → Case → Meaning) → Reduced M Root → Case → Meaning
root_of means s c = root_meaning (λ _. ratio_of s.rule.distances) (means s.below c)

abbrev pub corner_of : {M : Type 0} → (M → Case → Meaning) → Reduced M Corner → Case → Meaning
corner_of means s c =
    corner_meaning s.rule.first s.rule.last s.rule.b s.rule.proper c (means s.below c)

abbrev pub straight_scaling : Straight → Scaling
straight_scaling r = ByRatio (λ _ _ _. ratio_of r.distances)

abbrev pub maybe_of : {M : Type 0} → (M → Case → Meaning) → Reduced M (Option Straight) → Case → Meaning
maybe_of means s c = under (maybe_scaling straight_scaling s.rule) c (means s.below c)

pub straight_is : {M : Type 0} (means : M → Case → Meaning) (s : Reduced M Straight) (c : Case) → under (straight_scaling s.rule) c (means s.below c) ≡ straight_of means s c
straight_is means s c = refl

pub maybe_there : {M : Type 0} (means : M → Case → Meaning) (s : Reduced M Straight) (c : Case) → maybe_of means (record { below = s.below; rule = Some s.rule }) c ≡ straight_of means s c
maybe_there means s c = refl

pub maybe_alone : {M : Type 0} (means : M → Case → Meaning) (m : M) (c : Case) → maybe_of means (record { below = m; rule = None }) c ≡ means m c
maybe_alone means m c = refl
