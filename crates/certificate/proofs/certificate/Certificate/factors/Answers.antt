use Rattle.certificate.proofs.Sound.{factors_in_range}
use Rattle.certificate.proofs.certificate.Certificate.factors.Goals as goal

pub returns-clause-lawful : goal.returns-clause-lawful
returns-clause-lawful c = rw (c.factors_in.ensures, c.section.ensures.bytes) (factors_in_range _ c.args.self.now.accepted)
