use Rattle.loadcase.specs.Closed.{closed_case}
use Rattle.loadcase.proofs.Validity.{valid_of}
use Rattle.verdict.specs.Lines.{line_count}
use Rattle.verdict.specs.Exact.{Judged}
use Rattle.verdict.specs.Governing.{Governs}
use Rattle.verdict.proofs.Answered.{rated}
use Rattle.verdict.proofs.Judging.{judges_rated}
use Rattle.verdict.proofs.Governed.{governed}
use Rattle.verdict.proofs.Readings.{readable}
use Rattle.verdict.proofs.rating.rate_case.Goals as goal

pub returns : goal.returns
returns g c =
    let sheet = c.args.sheet.now in
    let case = closed_case c.args.case.now in
    let ms = g.S.RatingSheet.lines sheet case in
    let law = g.met.S.RatingSheet.lawful sheet case (valid_of c.args.case.now.within) in
    record {
      value = c.rate.ensures;
      judged = rated ms (λ v. Judged case ms v.accepted) c.rate.result c.rate.ensures (judges_rated case ms law);
      readable = readable case ms law;
      governs = rated ms (λ v. Governs ms line_count v.governing) c.rate.result c.rate.ensures (λ _. governed ms);
    }
