use Rattle.std.proofs.Common.{refl, ◌∙◌}
use Rattle.roots.specs.Extremes.{by_bits, greatest_of, least_of}
use Rattle.influence.proofs.Figure.{figure_length}
use Rattle.verdict.specs.Checks.{check_1}
use Rattle.figures.specs.Sheets.{SheetFigures}
use Rattle.figures.proofs.sheet_figures_hold.Goals as goal

worked : SheetFigures
unfolding greatest_of least_of by_bits check_1
worked = record { cone = λ S c i. refl; edge = λ S c b i. refl; check_holds = refl; check_fails = refl }

pub returns : goal.returns
unfolding greatest_of least_of by_bits
returns c =
    record {
      figures = worked;
      length = c.worked_length.ensures ∙ figure_length;
      neighbour = c.worked_neighbour.ensures ∙ refl;
    }
