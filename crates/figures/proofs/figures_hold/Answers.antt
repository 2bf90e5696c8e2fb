use mathlib.Core.Path.{refl, ap, ◌∙◌}
use Prim.Native.Nat.{ℕ}
use Rattle.roots.specs.Extremes.{by_bits, greatest_of, least_of}
use Rattle.influence.proofs.Figure.{figure_root, figure_length}
use Rattle.bolts.specs.declared.bolt.Direction.TheVariants.{Tension}
use Rattle.forces.specs.Cases.{force_by}
use Rattle.figures.specs.Worked.{WorkedFigures, two_anchors}
use Rattle.figures.proofs.figures_hold.Goals as goal

worked : WorkedFigures
unfolding greatest_of least_of by_bits
worked =
    record {
      root = figure_root;
      length = figure_length;
      first_anchor = ap (λ (L : ℕ). force_by L two_anchors Tension 0) figure_length ∙ refl;
      second_anchor = ap (λ (L : ℕ). force_by L two_anchors Tension 1) figure_length ∙ refl;
      spacing = refl;
      root_reduction = refl;
      neighbour = refl;
      cone = refl;
      edge = refl;
    }

pub returns : goal.returns
returns c = record { figures = worked; count = c.count_of_figures.ensures }
