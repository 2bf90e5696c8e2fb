-- Each mode keeps what every mode owes, for all numbers in range.
use Rattle.std.proofs.Common.{◌≡◌, true}
use Rattle.bolts.specs.declared.bolt.Direction.{Direction}
use Rattle.forces.specs.Cases.{Case, Valid}
use Rattle.failure.specs.Meanings.{Lawful}
use Rattle.groups.specs.declared.spacing.CharacteristicSpacing.{CharacteristicSpacing}
use Rattle.steel_modes.specs.declared.design.PartialFactor.{PartialFactor}
use Rattle.concrete_modes.specs.Cones.{cone_well, cone_meaning}
use Rattle.concrete_modes.specs.Edges.{well_of, first_meaning, second_meaning}
use Rattle.concrete_modes.specs.Squares.{square_most}
use Rattle.concrete_modes.specs.Sizes.{k_most, strength_most, strength_least, distance_most, distance_least, p_most}
use Rattle.concrete_modes.specs.ConeLemmas.{cone_lawful}
use Rattle.concrete_modes.specs.Values.{first_lawful, second_lawful}
use Rattle.concrete_modes.specs.declared.cone.ConeBasis.{ConeBasis}
use Rattle.concrete_modes.specs.declared.edge.EdgeBasis.{EdgeBasis}

pub cone_keeps : (b : ConeBasis) → cone_well b.k b.strength b.depth b.multiple ≡ true → (d : Direction) (S : CharacteristicSpacing) (f : PartialFactor) (c : Case) → Valid c → Lawful c (cone_meaning d S b f c)
cone_keeps b r d S f c valid i here = cone_lawful d S b f c valid (square_most b r) i

module _ (b : EdgeBasis) (r : well_of b ≡ true) where
  pub first_keeps : (S : CharacteristicSpacing) (f : PartialFactor) (c : Case) → Valid c → Lawful c (first_meaning S b f c)
  first_keeps S f c valid i here =
      first_lawful S b f c valid (k_most b r) (strength_most b r) (distance_most b r) (p_most b r) i

  pub second_keeps : (S : CharacteristicSpacing) (f : PartialFactor) (c : Case) → Valid c → Lawful c (second_meaning S b f c)
  second_keeps S f c valid i here =
      second_lawful S b f c valid (k_most b r) (strength_least b r) (strength_most b r) (distance_least b r) (distance_most b r) (p_most b r) i
