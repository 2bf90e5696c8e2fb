-- What accepted bytes read as.
use Rattle.std.proofs.Common.{◌≡◌, ℕ, List, Ok, Result, ap}
use Rattle.certificate.specs.Content.{content_of, granted, reading}
use Rattle.certificate.specs.Reading.{refusal}
use Rattle.certificate.specs.declared.fault.CertificateFault.{CertificateFault}

pub reads : (bs : List ℕ) → refusal bs ≡ Ok tt → reading bs ≡ Ok (content_of bs)
reads bs h = ap (λ (r : Result Unit CertificateFault). granted r (content_of bs)) h
