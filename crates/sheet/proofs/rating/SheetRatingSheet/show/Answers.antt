use Rattle.std.proofs.Common.{refl}
use Rattle.sheet.proofs.Answering.{showing}
use Rattle.sheet.proofs.rating.SheetRatingSheet.show.Goals as goal

pub returns : goal.returns
returns g c =
    let told = c.show_at.ensures in
    showing c.args.line c.args.place c.show_at.result told.outside told.past refl told.inside
