-- Questions in order, each with the fault that a no gives. The first no is the refusal.
use Rattle.std.specs.Prelude.{ℕ, Bool, cond, List, [], ◌∷◌, Ok, Err, Result}
use Rattle.certificate.specs.declared.fault.Question.{Question}
use Rattle.certificate.specs.declared.fault.CertificateFault.{CertificateFault}

abbrev pub Asked : Type 0
Asked = List (Bool × CertificateFault)

abbrev pub fault : Question → ℕ → CertificateFault
fault question byte = record { question = question; byte = byte }

abbrev pub first_no : Asked → Result Unit CertificateFault
first_no [] = Ok tt
first_no (q ∷ qs) = cond q.0 (first_no qs) (Err q.1)
