-- Worked figures, under one record.
use Rattle.std.specs.Prelude.{◌≡◌, [], ◌∷◌}
use Rattle.influence.specs.Lengths.{twentieth_root_of, influence_length}
use Rattle.bolts.specs.declared.bolt.Direction.TheVariants.{Tension}
use Rattle.forces.specs.Cases.{Case}
use Rattle.forces.specs.Exact.{force}
use Rattle.failure.specs.Reductions.{root_reduced}
use Rattle.groups.specs.Weights.{weight}
use Rattle.concrete.specs.Cone.{cone_spacing, cone_value, cone_resistance}
use Rattle.concrete.specs.Edge.{edge_second, edge_resistance}

-- two anchors 100 mm apart on a channel of 59,049 mm⁴, and one bolt of 5,000 N over the first
abbrev pub two_anchors : Case
two_anchors = record {
  opening = record { anchors = 2; spacing = 1000; inertia = 59049 };
  bolts = record { position = 0; tension = 5000; shear = 0 } ∷ [];
}

pub record WorkedFigures : Type 0 where
  -- the twentieth root of 59,049, in hundred-thousandths
  pub root : twentieth_root_of 59049 ≡ 173205
  -- the influence length in µm
  pub length : influence_length 59049 1000 ≡ 225166
  -- the forces on the two anchors in mN
  pub first_anchor : force two_anchors Tension 0 ≡ 3213681
  pub second_anchor : force two_anchors Tension 1 ≡ 1786463
  -- the characteristic spacing in µm of the cone at an embedment depth of 79 mm
  pub spacing : cone_spacing 790 ≡ 352253
  -- the resistance 10,000,000 mN under the root reduction of 25,000 over 100,000 µm
  pub root_reduction : root_reduced 25000 100000 10000000 ≡ 5000000
  -- the weight in millionths of a neighbour 300,000 µm away, at a characteristic spacing of 400,000 µm
  pub neighbour : weight 400000 300000 ≡ 125000
  -- the cone's resistance in mN: factor 8.0, strength 25, embedment depth 100 mm, partial factor 1.50
  pub cone : cone_resistance (cone_value 80 25 1000 10) 150 ≡ 26666666
  -- the edge's resistance in mN by edition 2: factor 7.5, strength 25, edge distance 125 mm, 1.40 over 1.50
  pub edge : edge_resistance (edge_second 75 25 1250) 140 150 ≡ 21875000
