use Rattle.std.proofs.Common.{◌≡◌, ℕ, leb, length, get_or, ap, ◌∙◌, rules, tests}
use Rattle.std.proofs.lemmas.Iterator.{YieldsList-from_slice}
use Rattle.std.proofs.lemmas.Iterator.Search.{all_from_yields_List}
use Rattle.verdict.specs.Checks.{all_below}
use Rattle.verdict.proofs.Below.{all_listed}
use Rattle.sheet.proofs.accuracy.are_accurate.Goals as goal

pub returns : goal.returns
returns c =
    let xs = c.args.allowances.now in
    let t = λ (x : ℕ). leb x 600 in
    let long : length xs ≡ 13 = search rules in
    all_from_yields_List t _ _ c.all.result c.all.ensures.ran (YieldsList-from_slice xs cc) (λ x b q k. search (rules, tests))
    ∙ all_listed t xs 0
    ∙ ap (λ (n : ℕ). all_below n (λ i. t (get_or xs i 0))) long
