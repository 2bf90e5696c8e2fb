use Rattle.std.proofs.Common.{◌≡◌, ℕ, ◌+◌, ◌-◌, ◌<◌, ◌≤◌, List, ◌++◌, length, drop, Ok, Err, Result, sym, refl, ap, ◌∙◌, arith}
use Rattle.std.proofs.lemmas.Result.{err_from_is_err_and}
use Rattle.std.proofs.lemmas.Bool.{cond-true, cond-false, le-leb, lt-leb}
use Rattle.certificate.specs.declared.fault.CertificateFault.{CertificateFault}
use Rattle.certificate.specs.Reading.{refusal}
use Rattle.certificate.specs.Content.{Content, content_of, granted, reading}
use Rattle.certificate.specs.Writing.{content, written}
use Rattle.certificate.proofs.Written.{too_long, refused_first, then_buffer}
use Rattle.certificate.proofs.RoundTrip.{content_back}
use Rattle.certificate.proofs.write.write.Goals as goal

-- accepted bytes with this content read as it
reads_back : (k : Content) → refusal (written k) ≡ Ok tt → content_of (written k) ≡ k → reading (written k) ≡ Ok k
reads_back k e f = ap (λ (r : Result Unit CertificateFault). granted r (content_of (written k))) e ∙ ap Ok f

pub returns-then-entries-gt-MOST_ENTRIES : goal.returns-then-entries-gt-MOST_ENTRIES
returns-then-entries-gt-MOST_ENTRIES c =
    (too_long (content c.args.fields.now) (length c.args.buffer.now) (omega arith) ∙ ap Err (sym c.at.ensures), refl)

pub returns-in_err-ask_certificate : goal.returns-in_err-ask_certificate
returns-in_err-ask_certificate c =
    let p = err_from_is_err_and c.from_residual.result c.from_residual.ensures.1 in
    let is : c.as_slice-bytes.result.now ≡ written (content c.args.fields.now) = c.as_slice-bytes.ensures.value ∙ c.draft_of-draft.ensures.after in
    let e = ap refusal (sym is) ∙ sym c.ask_certificate.ensures ∙ c.in_err-ask_certificate.was in
    rw (p.1, p.2) (refused_first (content c.args.fields.now) (length c.args.buffer.now) _ e, refl)

pub returns-then-buffer-count : goal.returns-then-buffer-count
returns-then-buffer-count c =
    let is : c.as_slice-bytes.result.now ≡ written (content c.args.fields.now) = c.as_slice-bytes.ensures.value ∙ c.draft_of-draft.ensures.after in
    let e = ap refusal (sym is) ∙ sym c.ask_certificate.ensures ∙ c.in_ok-ask_certificate.was in
    let short : length c.args.buffer.now < length (written (content c.args.fields.now)) = omega (arith, ap length is, c.if-buffer-count.true) in
    (then_buffer (content c.args.fields.now) (length c.args.buffer.now) e ∙ cond-false _ _ _ (lt-leb _ _ short) ∙ ap Err (sym c.at-then-buffer-count.ensures), refl)

pub returns : goal.returns
returns c =
    let k : Content = content c.args.fields.now in
    let old : List ℕ = c.args.buffer.now in
    let is : c.as_slice-bytes.result.now ≡ written k = c.as_slice-bytes.ensures.value ∙ c.draft_of-draft.ensures.after in
    let n : ℕ = length c.as_slice-bytes.result.now in
    let e = ap refusal (sym is) ∙ sym c.ask_certificate.ensures ∙ c.in_ok-ask_certificate.was in
    let fits : length (written k) ≤ length old = omega (arith, ap length is, c.if-buffer-count.false) in
    let few : length k.cracked + length k.uncracked ≤ 998 = omega arith in (
      then_buffer k (length old) e ∙ cond-true _ _ _ (le-leb _ _ fits),
      ap length is,
      c.if-buffer-count.false,
      ap (λ (ys : List ℕ). ys ++ drop n old) (c.copy_from_slice.ensures.after ∙ is),
      reads_back k e (content_back k (omega arith) (omega arith) c.draft_of-draft.ensures.fits),
    )
