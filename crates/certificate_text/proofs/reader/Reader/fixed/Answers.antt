use Rattle.std.proofs.Common.{◌≡◌, ℕ, ◌+◌, Some, None, Option, ap, ◌∙◌, arith}
use Rattle.std.specs.Option.{ok_or}
use Rattle.std.specs.Result.{result_ok}
use Rattle.std.proofs.lemmas.Result.{err_from_is_err_and}
use Rattle.certificate_text.specs.declared.fault.TextFault.TheVariants.{Line}
use Rattle.certificate_text.proofs.FrontRuns.{all_code, code_at, field_more, field_stop, fields_end}
use Rattle.certificate_text.proofs.reader.Reader.fixed.Goals as goal

pub bounds-numbers-k : goal.bounds-numbers-k
bounds-numbers-k c = omega (arith, all_code c.fields-field-items.result.now c.fields-field-items.ensures)

pub returns-in_err-numbers : goal.returns-in_err-numbers
returns-in_err-numbers c =
    let p = err_from_is_err_and c.from_residual.result c.from_residual.ensures.1 in
    let xs = c.fields-field-items.result.now in
    let none : c.field.result ≡ None = c.ok_or.ensures.ok_part ∙ ap result_ok c.in_err-numbers.was in
    let e : c.in_err-numbers.field-0.0 ≡ Line (c.loop-k.k + 1) = cc (c.in_err-numbers.was, c.ok_or.ensures.value, ap (λ (o : Option ℕ). ok_or o (Line (c.loop-k.k + 1))) none) in
    let s = rw (code_at xs c.loop-k.k _ c.fields-field-items.ensures c.loop-k-test.true, none) at c.field.ensures in
    let k = field_stop _ _ _ _ c.loop-k.invariant _ (omega (arith, all_code xs c.fields-field-items.ensures)) s in
    rw (p.1, p.2, e) (omega arith, omega (arith, all_code xs c.fields-field-items.ensures))

pub loop-k-preserved : goal.loop-k-preserved
loop-k-preserved c =
    let xs = c.fields-field-items.result.now in
    let some : c.field.result ≡ Some c.in_ok-numbers.field-0 = c.ok_or.ensures.ok_part ∙ ap result_ok c.in_ok-numbers.was in
    let s = rw (code_at xs c.loop-k.k _ c.fields-field-items.ensures c.loop-k-test.true, some) at c.field.ensures in
    field_more _ _ _ _ c.loop-k.invariant _ _ (omega (arith, all_code xs c.fields-field-items.ensures)) s

pub returns : goal.returns
returns c =
    let n = all_code c.fields-field-items.result.now c.fields-field-items.ensures in
    fields_end _ _ _ _ c.loop-k.invariant (omega arith) (omega (arith, c.loop-k.auto.k-end))
