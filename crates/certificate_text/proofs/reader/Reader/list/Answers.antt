use Rattle.certificate_text.proofs.FrontRuns.{entry_more, entries_same}
use Rattle.certificate_text.proofs.reader.Reader.list.Goals as goal

pub loop-entry-preserved : goal.loop-entry-preserved
loop-entry-preserved c =
    let h = entry_more _ _ _ _ _ c.loop-entry.invariant _ _ c.in-Some.ensures in
    entries_same _ _ _ _ _ h _ _ c.in_ok-push.ensures.items c.in_ok-push.ensures.len
