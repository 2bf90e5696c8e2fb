use Rattle.std.proofs.Common.{◌-◌}
use Rattle.bolts.specs.Loads.{total_load}
use Rattle.loadcase.specs.Closed.{closed_case}
use Rattle.loadcase.proofs.Validity.{valid_of}
use Rattle.verdict.specs.Lines.{line}
use Rattle.verdict.specs.Faithful.{Faithful}
use Rattle.verdict.proofs.Answered.{showed, faithful}
use Rattle.verdict.proofs.rating.show_place.Goals as goal

pub returns : goal.returns
returns g c =
    let sheet = c.args.sheet.now in
    let case = closed_case c.args.case.now in
    let ms = g.S.RatingSheet.lines sheet case in
    let l = c.args.line in
    let p = c.args.place in
    let law = g.met.S.RatingSheet.lawful sheet case (valid_of c.args.case.now.within) in
    record {
      value = c.asked_figures.ensures;
      faithful = showed ms l p (Faithful (total_load (line ms l).direction case.bolts) (line ms l) (p - 1)) c.asked_figures.result c.asked_figures.ensures (faithful case ms l p law);
    }
