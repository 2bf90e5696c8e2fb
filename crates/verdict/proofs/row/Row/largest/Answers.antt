use Rattle.std.proofs.Common.{◌≡◌, map, take, ap, ◌∙◌, rules, tests, arith}
use Rattle.std.specs.List.{reduce}
use Rattle.std.specs.Option.{unwrap_or}
use Rattle.std.specs.Ordering.{nat_cmp, max_by_ordering}
use Rattle.std.proofs.lemmas.Iterator.{YieldsList-from_slice, YieldsList-from_map}
use Rattle.std.proofs.lemmas.Iterator.Consumers.{reduce_from_yields_List}
use Rattle.std.proofs.lemmas.List.Folds.{max_of_map}
use Rattle.verdict.specs.declared.answer.Shown.{Shown}
use Rattle.verdict.proofs.Listed.{largest_listed}
use Rattle.verdict.proofs.row.Row.largest.Goals as goal

pub returns : goal.returns
returns c =
    let r = c.args.self.now in
    let xs = take r.count r.figures in
    let listed : c.max.result ≡ reduce (λ p z. max_by_ordering (nat_cmp p z) p z) (map (λ (s : Shown). s.utilisation) xs) =
    reduce_from_yields_List _ _ c.max.result c.max.ensures.ran (YieldsList-from_map _ (λ (s : Shown). s.utilisation) (YieldsList-from_slice xs cc) c.map-utilisations.ensures.closure (λ x r q k. search (rules, tests))) in
    c.unwrap_or.ensures ∙ ap (λ v. unwrap_or v 0) listed ∙ max_of_map (λ (s : Shown). s.utilisation) xs ∙ largest_listed r (omega arith)
