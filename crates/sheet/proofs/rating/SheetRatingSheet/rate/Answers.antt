use Rattle.std.proofs.Common.{refl}
use Rattle.loadcase.specs.Closed.{closed_case}
use Rattle.sheet.proofs.Answering.{refusing, rating}
use Rattle.sheet.proofs.rating.SheetRatingSheet.rate.Goals as goal

pub returns-then-not-are_accurate : goal.returns-then-not-are_accurate
returns-then-not-are_accurate g c =
    refusing c.allowances.result refl (c.allowances.ensures (closed_case c.args.case.now)) c.if-not-are_accurate.ensures

pub returns : goal.returns
returns g c =
    rating c.allowances.result refl (c.allowances.ensures (closed_case c.args.case.now)) c.if-not-are_accurate.ensures
    c.table.result c.table.ensures c.verdict_of.result c.verdict_of.ensures.value
