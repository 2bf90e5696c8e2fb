use Rattle.std.proofs.Common.{◌≡◌, length, refl, ap, arith}
use Rattle.std.specs.Slice.Iter.{iter_rest}
use Rattle.std.specs.Iterator.Adapters.{zip_first, zip_second}
use Rattle.certificate_text.proofs.FrontRuns.{all_code}
use Rattle.certificate_text.proofs.printing.write_fields.Goals as goal

pub loop-field-init : goal.loop-field-init
loop-field-init c =
    let i = c.into_iter-field-iterator.ensures.into_iter_gives in
    let f : iter_rest (zip_first c.into_iter-field-iterator.result) ≡ c.fields.result.now = cc (i, c.zip-field-items.ensures.first, c.iter.ensures.rest) in
    let n : iter_rest (zip_second c.into_iter-field-iterator.result) ≡ c.args.numbers.now = cc (i, c.zip-field-items.ensures.second.0) in
    record { even = omega (arith, ap length f, ap length n, all_code c.fields.result.now c.fields.ensures); left = rw (f, n, c.fields.ensures) refl }
