use Rattle.std.proofs.Common.{arith}
use Rattle.std.proofs.lemmas.List.{ext_get_or}
use Rattle.certificate_text.proofs.numbers.widened.Goals as goal

pub returns : goal.returns
returns c =
    let m = c.map.ensures.items in
    ext_get_or 0 c.map.result c.args.shorts (omega (arith, m.long)) (λ i h. let k = m.at i 0 0 (omega (arith, m.long)) in k.2.met)
