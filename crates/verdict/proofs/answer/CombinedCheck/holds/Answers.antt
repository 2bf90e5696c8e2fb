use Rattle.std.proofs.Common.{ℕ, leb, ap, sym, refl, ◌∙◌, rules, tests}
use Rattle.std.proofs.lemmas.Iterator.{YieldsList-from_range}
use Rattle.std.proofs.lemmas.Iterator.Search.{all_from_yields_List}
use Rattle.verdict.specs.Checks.{bolt_steel, channel, anchor, check_1, check_2, check_3, sound}
use Rattle.verdict.specs.Rows.{row_lines}
use Rattle.verdict.specs.declared.answer.CombinedCheck.{CombinedCheck}
use Rattle.verdict.proofs.Below.{all_ranged}
use Rattle.verdict.proofs.answer.CombinedCheck.holds.Goals as goal

pub returns-in-BoltSteel : goal.returns-in-BoltSteel
unfolding check_1
returns-in-BoltSteel c =
    let ms = row_lines c.args.rows.now in
    let t = λ (i : ℕ). leb (bolt_steel ms i) 100000000 in
    all_from_yields_List t _ _ c.all.result c.all.ensures.ran (YieldsList-from_range 0 16 16 refl refl) (λ x b q k. search (rules, tests))
    ∙ all_ranged 16 t
    ∙ sym (ap (λ (k : CombinedCheck). sound k ms) c.in-BoltSteel.is)

pub returns-in-Channel : goal.returns-in-Channel
unfolding check_2
returns-in-Channel c =
    let ms = row_lines c.args.rows.now in
    let t = λ (i : ℕ). leb (channel ms i) 10000 in
    all_from_yields_List t _ _ c.all-in-Channel.result c.all-in-Channel.ensures.ran (YieldsList-from_range 0 16 16 refl refl) (λ x b q k. search (rules, tests))
    ∙ all_ranged 16 t
    ∙ sym (ap (λ (k : CombinedCheck). sound k ms) c.in-Channel.is)

pub returns-in-Anchor : goal.returns-in-Anchor
unfolding check_3
returns-in-Anchor c =
    let ms = row_lines c.args.rows.now in
    let t = λ (i : ℕ). leb (anchor ms i) 10000 in
    all_from_yields_List t _ _ c.all-in-Anchor.result c.all-in-Anchor.ensures.ran (YieldsList-from_range 0 16 16 refl refl) (λ x b q k. search (rules, tests))
    ∙ all_ranged 16 t
    ∙ sym (ap (λ (k : CombinedCheck). sound k ms) c.in-Anchor.is)
