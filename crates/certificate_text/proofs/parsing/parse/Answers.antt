use Rattle.std.proofs.Common.{◌≡◌, ◌<◌, length, Ok, vec_items, ap, ◌∙◌, arith, rules}
use Rattle.std.proofs.lemmas.Result.{err_from_is_err_and}
use Rattle.certificate_text.proofs.TextRuns.{fixed_fault, cracked_fault, uncracked_fault, parsed_whole, parsed_left, fitting, content_same}
use Rattle.certificate_text.proofs.parsing.parse.Goals as goal

pub returns-in_err-numbers : goal.returns-in_err-numbers
returns-in_err-numbers c =
    let p = err_from_is_err_and c.from_residual.result c.from_residual.ensures.1 in
    let h = c.in_err-numbers.ensures in
    rw (p.1, p.2) (fixed_fault c.args.text.now c.fixed.new.self.rest.now _ h)

pub returns-in_err-cracked : goal.returns-in_err-cracked
returns-in_err-cracked c =
    let p = err_from_is_err_and c.from_residual-in_err-cracked.result c.from_residual-in_err-cracked.ensures.1 in
    let a = c.in_ok-numbers.ensures in
    let h = c.in_err-cracked.ensures in
    rw (p.1, p.2) (cracked_fault c.args.text.now c.fixed.new.self.rest.now c.list.new.self.rest.now _ _ a h)

pub returns-in_err-uncracked : goal.returns-in_err-uncracked
returns-in_err-uncracked c =
    let p = err_from_is_err_and c.from_residual-in_err-uncracked.result c.from_residual-in_err-uncracked.ensures.1 in
    let a = c.in_ok-numbers.ensures in
    let b = c.in_ok-cracked.ensures in
    let h = c.in_err-uncracked.ensures in
    rw (p.1, p.2) (uncracked_fault c.args.text.now c.fixed.new.self.rest.now c.list.new.self.rest.now c.list-2.new.self.rest.now _ _ _ _ a b.values b.past c.in_ok-cracked.cracked.ok.0 h)

pub returns-then-not-is_empty : goal.returns-then-not-is_empty
returns-then-not-is_empty c =
    let a = c.in_ok-numbers.ensures in
    let b = c.in_ok-cracked.ensures in
    let d = c.in_ok-uncracked.ensures in
    let some : 0 < length c.list-2.new.self.rest.now = search rules in
    let e = parsed_left c.args.text.now _ _ _ _ _ _ _ _ a.values a.past b.values b.past c.in_ok-cracked.cracked.ok.0 d.values a.full d.past c.in_ok-uncracked.uncracked.ok.0 some in
    let m = c.len.ensures in
    let n = c.len-then-not-is_empty.ensures in
    rw (m, n) e

pub overflow_cast-result : goal.overflow_cast-result
overflow_cast-result c =
    let a = c.in_ok-numbers.ensures in
    omega (arith, fitting _ _ a.values 0 (omega arith))

pub geometry_from-requires : goal.geometry_from-requires
geometry_from-requires c = fitting _ _ c.in_ok-numbers.ensures.values

pub factors_from-requires : goal.factors_from-requires
factors_from-requires c = fitting _ _ c.in_ok-numbers.ensures.values

pub returns : goal.returns
returns c =
    let a = c.in_ok-numbers.ensures in
    let b = c.in_ok-cracked.ensures in
    let d = c.in_ok-uncracked.ensures in
    let none : length c.list-2.new.self.rest.now ≡ 0 = search rules in
    let e = parsed_whole c.args.text.now _ _ _ _ _ _ _ _ a.values a.past b.values b.past c.in_ok-cracked.cracked.ok.0 d.values a.full d.past c.in_ok-uncracked.uncracked.ok.0 none in
    e ∙ ap Ok (content_same c.in_ok-numbers.numbers _ _ _ (vec_items c.in_ok-cracked.cracked) (vec_items c.in_ok-uncracked.uncracked) c.geometry_from.ensures c.values_from.ensures c.factors_from.ensures)
