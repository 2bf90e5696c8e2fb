use Rattle.std.proofs.Common.{leb, take, ◌∙◌, rules, tests, arith}
use Rattle.std.proofs.lemmas.Iterator.{YieldsList-from_slice}
use Rattle.std.proofs.lemmas.Iterator.Search.{all_from_yields_List}
use Rattle.verdict.specs.declared.answer.Shown.{Shown}
use Rattle.verdict.proofs.Listed.{within_listed}
use Rattle.verdict.proofs.row.Row.is_within.Goals as goal

pub returns : goal.returns
returns c =
    let r = c.args.self.now in
    all_from_yields_List (λ (s : Shown). leb s.utilisation 10000) _ _ c.all.result c.all.ensures.ran (YieldsList-from_slice (take r.count r.figures) cc) (λ x b q k. search (rules, tests))
    ∙ within_listed r (omega arith)
