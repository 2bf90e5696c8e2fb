use Rattle.std.proofs.Common.{◌≡◌, codes, arith, rules}
use Rattle.std.proofs.lemmas.Slice.Eq.{text_from_reads}
use Rattle.job_text.proofs.line.called.Goals as goal

pub returns-in-place : goal.returns-in-place
returns-in-place c =
    let named : c.args.name.now ≡ codes "place" = text_from_reads c.args.name.now (codes "place") (omega arith) (search rules) in
    rw named c.place_in.ensures
