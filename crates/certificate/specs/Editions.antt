-- The byte that names an edition: 1 or 2.
use Rattle.std.specs.Prelude.{ℕ, cond, Ok, Err, Result, ◌==◌}
use Rattle.certificate.specs.Asked.{fault}
use Rattle.certificate.specs.declared.fault.CertificateFault.{CertificateFault}
use Rattle.certificate.specs.declared.fault.Question.TheVariants.{Header}
use Rattle.certificate.specs.declared.fields.Edition.{Edition}
use Rattle.certificate.specs.declared.fields.Edition.TheVariants.{First, Second}

abbrev pub edition_byte : Edition → ℕ
edition_byte First = 1
edition_byte Second = 2

-- the edition that a byte names; any other byte is refused as byte 0 of the head
abbrev pub edition_named : ℕ → Result Edition CertificateFault
edition_named byte = cond (byte == 1) (Ok First) (cond (byte == 2) (Ok Second) (Err (fault Header 0)))
