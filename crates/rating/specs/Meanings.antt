-- What the lines of a channel's sheet mean.
--   cone_of m c                     the meaning of a cone
--   first_edge_of, second_edge_of   of an edge by either edition
--   cone_line_of, edge_line_of      with all of their reductions
--   channel_lines s c               the meanings of the thirteen lines for the case c
use Rattle.std.specs.Prelude.{List, [], ◌∷◌}
use Rattle.forces.specs.Cases.{Case}
use Rattle.failure.specs.Meanings.{Meaning}
use Rattle.failure.specs.Combined.{root_of, corner_of, maybe_of}
use Rattle.steel_modes.specs.Anchored.{anchor_steel_meaning}
use Rattle.steel_modes.specs.Bolted.{bolt_steel_meaning}
use Rattle.steel_modes.specs.Lips.{lip_meaning}
use Rattle.steel_modes.specs.Flexed.{flexure_meaning}
use Rattle.steel_modes.specs.Anchored.{pull_out_meaning}
use Rattle.steel_modes.specs.declared.anchor.AnchorSteel.{AnchorSteel}
use Rattle.steel_modes.specs.declared.bolt.BoltSteel.{BoltSteel}
use Rattle.steel_modes.specs.declared.lip.Lip.{Lip}
use Rattle.concrete_modes.specs.Cones.{cone_meaning}
use Rattle.concrete_modes.specs.Edges.{first_meaning}
use Rattle.concrete_modes.specs.Edges.{second_meaning}
use Rattle.concrete_modes.specs.declared.cone.Cone.{Cone}
use Rattle.concrete_modes.specs.declared.edge.first.FirstEdge.{FirstEdge}
use Rattle.concrete_modes.specs.declared.edge.second.SecondEdge.{SecondEdge}
use Rattle.rating.specs.Editions.{edition_of}
use Rattle.rating.specs.Lines.{ConeLine, EdgeLine, ChannelSheet}

abbrev pub anchor_of : AnchorSteel → Case → Meaning
anchor_of m c = anchor_steel_meaning m.direction m.value m.factor c

abbrev pub bolt_of : BoltSteel → Case → Meaning
bolt_of m c = bolt_steel_meaning m.direction m.value m.factor c

abbrev pub lip_of : Lip → Case → Meaning
lip_of m c = lip_meaning m.direction m.value m.factor m.spacing c

abbrev pub cone_of : Cone → Case → Meaning
cone_of m c = cone_meaning m.direction m.spacing m.basis m.factor c

abbrev pub first_edge_of : FirstEdge → Case → Meaning
first_edge_of m c = first_meaning m.spacing m.basis m.factor c

abbrev pub second_edge_of : SecondEdge → Case → Meaning
second_edge_of m c = second_meaning m.spacing m.basis m.factor c

abbrev pub cone_line_of : ConeLine → Case → Meaning
cone_line_of m c = maybe_of (corner_of (root_of cone_of)) m c

abbrev pub edge_line_of : EdgeLine → Case → Meaning
edge_line_of m c = root_of (corner_of (edition_of first_edge_of second_edge_of)) m c

abbrev pub channel_lines : ChannelSheet → Case → List Meaning
channel_lines s c =
    anchor_of s.line1 c
    ∷ anchor_of s.line2 c
    ∷ lip_of s.line3 c
    ∷ bolt_of s.line4 c
    ∷ flexure_meaning s.line5.value s.line5.factor c
    ∷ pull_out_meaning s.line6.value s.line6.strength s.line6.factor c
    ∷ cone_line_of s.line7 c
    ∷ bolt_of s.line8 c
    ∷ lip_of s.line9 c
    ∷ anchor_of s.line10 c
    ∷ anchor_of s.line11 c
    ∷ cone_line_of s.line12 c
    ∷ edge_line_of s.line13 c
    ∷ []
