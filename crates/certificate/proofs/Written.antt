-- How long a written certificate is, and what is asked of it.
use Rattle.std.proofs.Common.{◌≡◌, ℕ, ◌+◌, ◌*◌, ◌<◌, cond, leb, [], ◌∷◌, length, Ok, Err, arith, length-append}
use Rattle.std.proofs.lemmas.Bool.{cond-false, and_right, lt-leb}
use Rattle.certificate.specs.Asked.{fault}
use Rattle.certificate.specs.Reading.{refusal, certificate_asked}
use Rattle.certificate.specs.Content.{Content}
use Rattle.certificate.specs.Writing.{written, list_bytes, writing_refusal}
use Rattle.certificate.specs.declared.fault.CertificateFault.{CertificateFault}
use Rattle.certificate.specs.declared.fault.Question.TheVariants.{Header, Buffer}
use Rattle.certificate.proofs.Firsts.{first_no_then, first_no_stop}
use Rattle.certificate.proofs.RoundTrip.{length-list}

pub length-written : (c : Content) → length (written c) ≡ 102 + 4 * (length c.cracked + length c.uncracked)
unfolding written
length-written c =
    let k = length-list c.cracked in
    let u = length-list c.uncracked in
    let b = length-append (list_bytes c.cracked) (list_bytes c.uncracked) in
    omega arith

pub too_long : (c : Content) (room : ℕ) → 998 < length c.cracked + length c.uncracked → writing_refusal c room ≡ Err (fault Header 0)
unfolding writing_refusal
too_long c room h =
    let l : 4096 < length (written c) = omega (arith, length-written c) in
    cond-false _ _ _ (and_right (leb 18 (length (written c))) (leb (length (written c)) 4096) (lt-leb (length (written c)) 4096 l))

module _ (c : Content) (room : ℕ) where
  pub refused_first : (e : CertificateFault) → refusal (written c) ≡ Err e → writing_refusal c room ≡ Err e
  unfolding refusal writing_refusal
  refused_first e h = first_no_stop (certificate_asked (written c)) ((leb (length (written c)) room, fault Buffer 0) ∷ []) e h

  pub then_buffer : refusal (written c) ≡ Ok tt → writing_refusal c room ≡ cond (leb (length (written c)) room) (Ok tt) (Err (fault Buffer 0))
  unfolding refusal writing_refusal
  then_buffer h = first_no_then (certificate_asked (written c)) ((leb (length (written c)) room, fault Buffer 0) ∷ []) h
