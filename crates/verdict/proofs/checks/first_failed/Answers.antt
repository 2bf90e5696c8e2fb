use Rattle.std.proofs.Common.{◌≡◌, Bool, true, false, cond, not, List, [], ◌∷◌, Some, None, sym, refl, ◌∙◌, rules, tests}
use Rattle.std.specs.List.{find}
use Rattle.std.specs.Option.{option_map}
use Rattle.std.proofs.lemmas.Iterator.{YieldsList-from_slice}
use Rattle.std.proofs.lemmas.Iterator.Consumers.{YieldsList-from_copied}
use Rattle.std.proofs.lemmas.Iterator.Search.{find_from_yields_List}
use Rattle.verdict.specs.Checks.{check_1, check_2, check_3, check_4, sound}
use Rattle.verdict.specs.Rows.{row_lines}
use Rattle.verdict.specs.declared.answer.CombinedCheck.{CombinedCheck}
use Rattle.verdict.specs.declared.answer.CombinedCheck.TheVariants.{BoltSteel, Channel, Anchor, Concrete}
use Rattle.verdict.proofs.checks.first_failed.Goals as goal

checks : List CombinedCheck
checks = BoltSteel ∷ Channel ∷ Anchor ∷ Concrete ∷ []

first_of : (a b d e : Bool) → cond (not a) (Some BoltSteel) (cond (not b) (Some Channel) (cond (not d) (Some Anchor) (cond (not e) (Some Concrete) None))) ≡ cond a (cond b (cond d (cond e None (Some Concrete)) (Some Anchor)) (Some Channel)) (Some BoltSteel)
first_of false b d e = refl
first_of true false d e = refl
first_of true true false e = refl
first_of true true true false = refl
first_of true true true true = refl

pub returns : goal.returns
unfolding checks
returns c =
    let ms = row_lines c.args.rows.now in
    let found : option_map (λ (k : CombinedCheck). k) c.find.result ≡ find (λ (k : CombinedCheck). not (sound k ms)) checks =
    find_from_yields_List (λ (k : CombinedCheck). not (sound k ms)) _ _ c.find.result c.find.ensures.ran (YieldsList-from_copied (YieldsList-from_slice checks cc)) (λ x b q k. search (rules, tests)) in
    let same : option_map (λ (k : CombinedCheck). k) c.find.result ≡ c.find.result = search rules in
    sym same ∙ found ∙ first_of (check_1 ms) (check_2 ms) (check_3 ms) (check_4 ms)
