use Rattle.certificate.proofs.Sound.{geometry_in_range}
use Rattle.certificate.proofs.certificate.Certificate.geometry.Goals as goal

pub returns-clause-lawful : goal.returns-clause-lawful
returns-clause-lawful c = rw (c.geometry_in.ensures, c.section.ensures.bytes) (geometry_in_range _ c.args.self.now.accepted)
