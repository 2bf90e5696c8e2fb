use Rattle.std.proofs.Common.{◌≡◌, length, ◌∙◌, rules, tests}
use Rattle.std.proofs.lemmas.Iterator.{YieldsList-from_slice}
use Rattle.std.proofs.lemmas.Iterator.Search.{all_from_yields_List}
use Rattle.verdict.specs.Checks.{line_within}
use Rattle.verdict.specs.Rows.{row_line}
use Rattle.verdict.specs.declared.row.Row.{Row}
use Rattle.verdict.proofs.Listed.{none_listed}
use Rattle.verdict.proofs.table.none_past.Goals as goal

pub returns : goal.returns
returns c =
    let rs = c.args.rows.now in
    let long : length rs ≡ 13 = search rules in
    all_from_yields_List (λ (r : Row). line_within (row_line r)) _ _ c.all.result c.all.ensures.ran (YieldsList-from_slice rs cc) (λ x b q k. search (rules, tests))
    ∙ none_listed rs long
