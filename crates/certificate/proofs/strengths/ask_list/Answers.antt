use Rattle.std.proofs.Common.{◌≡◌, ℕ, ◌/◌, ◌<◌, length, get_or, sym, ap, ◌∙◌, arith}
use Rattle.std.specs.List.{range_with_len}
use Rattle.std.proofs.lemmas.List.FromFn.{length-range_with_len, get_or-range_with_len}
use Rattle.std.proofs.lemmas.Result.{err_from_is_err_and}
use Rattle.certificate.specs.Asked.{first_no}
use Rattle.certificate.specs.Strengths.{entry_asked}
use Rattle.certificate.proofs.Firsts.{asked_more, asked_stop, asked_all}
use Rattle.certificate.proofs.strengths.ask_list.Goals as goal

-- the entry that is asked in a turn
entry : (n k : ℕ) → k < n → get_or (range_with_len 0 n) k 0 ≡ k
entry n k h = omega (arith, get_or-range_with_len 0 n k 0 h)

pub returns-in_err-ask_entry : goal.returns-in_err-ask_entry
returns-in_err-ask_entry c =
    let p = err_from_is_err_and c.from_residual.result c.from_residual.ensures.1 in
    let n : ℕ = length c.args.list.bytes.now / 4 in
    let f = entry_asked c.args.list.place c.args.list.bytes.now in
    let e = ap (λ (k : ℕ). first_no (f k)) (entry n c.loop-k.k c.loop-k-test.true) in
    rw (p.1, p.2) (asked_stop f (range_with_len 0 n) c.loop-k.k 0 _ c.loop-k.invariant _ (omega (arith, length-range_with_len 0 n)) (e ∙ sym c.in_err-ask_entry.ensures))

pub loop-k-preserved : goal.loop-k-preserved
loop-k-preserved c =
    let n : ℕ = length c.args.list.bytes.now / 4 in
    let f = entry_asked c.args.list.place c.args.list.bytes.now in
    let e = ap (λ (k : ℕ). first_no (f k)) (entry n c.loop-k.k c.loop-k-test.true) in
    asked_more f (range_with_len 0 n) c.loop-k.k 0 _ c.loop-k.invariant (omega (arith, length-range_with_len 0 n)) (e ∙ sym c.in_ok-ask_entry.ensures)

pub returns : goal.returns
returns c =
    let n : ℕ = length c.args.list.bytes.now / 4 in
    asked_all (entry_asked c.args.list.place c.args.list.bytes.now) (range_with_len 0 n) c.loop-k.k 0 _ c.loop-k.invariant (omega (arith, length-range_with_len 0 n))
