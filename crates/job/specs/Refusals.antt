-- The refusals of a job.
--   number r          the number of the question
--   place r           the byte of the certificate, or the line of the job
--   lifted f          the fault of a sheet, which is made of the first line
use Rattle.std.specs.Prelude.{ℕ}
use Rattle.certificate.specs.Numbers as certificate
use Rattle.bolts.specs.Numbers as bolts
use Rattle.rating.specs.declared.fault.SheetFault.{SheetFault}
use Rattle.rating.specs.declared.fault.SheetFault.TheVariants as sheet
use Rattle.job.specs.declared.fault.JobRefusal.{JobRefusal}
use Rattle.job.specs.declared.fault.JobRefusal.TheVariants.{Certificate, Case, Strength, Line}

abbrev pub number : JobRefusal → ℕ
number (Certificate f) = certificate.number f.question
number (Case e l) = bolts.number e
number (Strength l) = 6
number (Line l) = 16

abbrev pub place : JobRefusal → ℕ
place (Certificate f) = f.byte
place (Case e l) = l
place (Strength l) = l
place (Line l) = l

abbrev pub lifted : SheetFault → JobRefusal
lifted (sheet.Certificate f) = Certificate f
lifted (sheet.Site e) = Case e 1
lifted sheet.Strength = Strength 1
