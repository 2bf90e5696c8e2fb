-- The number of the question by which a sheet is refused.
use Rattle.std.specs.Prelude.{ℕ}
use Rattle.certificate.specs.Numbers as certificate
use Rattle.bolts.specs.Numbers as bolts
use Rattle.rating.specs.declared.fault.SheetFault.{SheetFault}
use Rattle.rating.specs.declared.fault.SheetFault.TheVariants.{Certificate, Site, Strength}

abbrev pub number : SheetFault → ℕ
number (Certificate f) = certificate.number f.question
number (Site e) = bolts.number e
number Strength = 6
