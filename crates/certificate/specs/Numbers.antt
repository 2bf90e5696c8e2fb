-- The number under which each question is refused, and what is printed of a refusal.
use Rattle.std.specs.Prelude.{ℕ, List, ◌∷◌, ◌++◌, codes, decimal}
use Rattle.certificate.specs.declared.fault.CertificateFault.{CertificateFault}
use Rattle.certificate.specs.declared.fault.Question.{Question}
use Rattle.certificate.specs.declared.fault.Question.TheVariants.{Header, Layout, Range, Strengths, Buffer}

abbrev pub number : Question → ℕ
number Header = 1
number Layout = 2
number Range = 3
number Strengths = 4
number Buffer = 15

-- `refused`, the number of the question, and the byte
abbrev pub refused_text : CertificateFault → List ℕ
refused_text fault = codes "refused " ++ (decimal (number fault.question) ++ (32 ∷ decimal fault.byte))
