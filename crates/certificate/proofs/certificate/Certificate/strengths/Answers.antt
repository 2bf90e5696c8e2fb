use Rattle.certificate.proofs.Sound.{list_in_range}
use Rattle.certificate.proofs.certificate.Certificate.strengths.Goals as goal

pub returns-clause-lawful : goal.returns-clause-lawful
returns-clause-lawful c = rw (c.section.ensures.bytes, c.from.ensures) (list_in_range _ c.args.concrete c.args.self.now.accepted)
