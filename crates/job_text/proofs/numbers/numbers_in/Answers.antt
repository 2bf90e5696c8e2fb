use Rattle.std.proofs.Common.{◌≡◌, ℕ, ◌<◌, List, length, Option, sym, ap, ◌∙◌, arith, length-set, Bor}
use Rattle.std.specs.Option.{option_map}
use Rattle.text_pieces.specs.Pieces.{words_after}
use Rattle.job_text.specs.Counted.{exactly}
use Rattle.job_text.proofs.NumberRuns.{read_more, read_short, read_wrong, read_end}
use Rattle.job_text.proofs.numbers.numbers_in.Goals as goal

-- the words in an optional byte string
abbrev left : Option (Bor (List ℕ)) → List (List ℕ)
left o = words_after (option_map (λ x. x.now) o)

pub returns-in_err-rest : goal.returns-in_err-rest
returns-in_err-rest g c =
    c.from_residual.ensures ∙ read_short g.row.N _ _ _ _ c.loop-number.invariant.0 (ap left c.in_err-rest.was) c.loop-number-test.true
    ∙ ap (exactly g.row.N) c.words.view_is

pub returns-in_err-number : goal.returns-in_err-number
returns-in_err-number g c =
    let e = ap left c.in_ok-rest.was ∙ c.cut_word-cut.ensures.words in
    let f = sym c.number_in.ensures.value ∙ c.in_err-number.was in
    c.from_residual-in_err-number.ensures ∙ read_wrong g.row.N _ _ _ _ _ _ c.loop-number.invariant.0 e f
    ∙ ap (exactly g.row.N) c.words.view_is

pub loop-number-preserved : goal.loop-number-preserved
loop-number-preserved g c =
    let e = ap left c.in_ok-rest.was ∙ c.cut_word-cut.ensures.words in
    let f = sym c.number_in.ensures.value ∙ c.in_ok-number.was in
    let n : length c.loop-number.number-items ≡ g.row.N = c.loop-number.invariant.1 in
    let t : c.loop-number.number-index < g.row.N = c.loop-number-test.true in
    (read_more _ _ _ _ _ _ _ c.loop-number.invariant.0 e f (omega arith), simp length-set n)

pub returns : goal.returns
returns g c =
    c.then_some.ensures
    ∙ read_end g.row.N _ _ _ _ _ c.loop-number.invariant.0 c.is_none.ensures c.loop-number-test.false c.loop-number.auto.number-index-end c.loop-number.invariant.1
    ∙ ap (exactly g.row.N) c.words.view_is
