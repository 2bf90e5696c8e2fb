use Rattle.std.proofs.Common.{length, vec_items, vec_len}
use Rattle.certificate_text.proofs.FrontRuns.{EntriesRead}
use Rattle.certificate_text.proofs.reader.Reader.list.Given as goal

abbrev pub invariant-loop-entry : goal.invariant-loop-entry
invariant-loop-entry l = EntriesRead l.name l.initial.self.rest.now l.self.rest.now (vec_items l.entries) (vec_len l.entries)

abbrev pub decreases-loop-entry : goal.decreases-loop-entry
decreases-loop-entry l = length l.self.rest.now
