use Rattle.certificate.proofs.Sound.{values_in_range}
use Rattle.certificate.proofs.certificate.Certificate.values.Goals as goal

pub returns-clause-lawful : goal.returns-clause-lawful
returns-clause-lawful c = rw (c.values_in.ensures, c.section.ensures.bytes) (values_in_range _ c.args.self.now.accepted)
