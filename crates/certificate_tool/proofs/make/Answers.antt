use Rattle.std.proofs.Common.{◌≡◌, ℕ, ◌-◌, List, ◌++◌, length, take, drop, Ok, sym, ap, ◌∙◌}
use Rattle.std.proofs.lemmas.List.{take_at}
use Rattle.certificate.specs.Content.{Content, reading}
use Rattle.certificate.specs.Writing.{content, written}
use Rattle.certificate_text.specs.Content.{content_in}
use Rattle.certificate_tool.proofs.make.Goals as goal

-- the front of the buffer is the certificate
front : (bs old new : List ℕ) (n : ℕ) → n ≡ length bs → new ≡ bs ++ drop n old → take n new ≡ bs
front bs old new n h e = ap (take n) e ∙ take_at bs (drop n old) n (sym h)

pub returns : goal.returns
returns c =
    let k : Content = content c.fields.result in
    let w = c.in_ok-length.ensures in
    let said : k ≡ content_in c.in_ok-parsed.parsed = c.fields.ensures in
    let is = c.in_ok-from_slice.ensures.items ∙ front (written k) _ c.write.new.buffer c.in_ok-length.length w.1 w.3 in
    (k, c.in_ok-parsed.ensures ∙ ap Ok (sym said), is, ap reading is ∙ w.4)
