use Rattle.certificate_text.proofs.FrontRuns.{SomeRead}
use Rattle.certificate_text.proofs.reader.Reader.fixed.Given as goal

abbrev pub invariant-loop-k : goal.invariant-loop-k
invariant-loop-k l = SomeRead l.initial.self.rest.now l.self.rest.now l.numbers l.k
