-- The end of a history.
use Rattle.std.proofs.Common.{◌≡◌, ℕ, ◌≤◌, List, ◌++◌, length, drop, sym, ap, ◌∙◌}
use Rattle.std.proofs.lemmas.List.{drop_all, append-nil}
use Rattle.forces.specs.Cases.{Case}
use Rattle.failure.specs.Meanings.{Meaning}
use Rattle.history.specs.declared.call.Call.{Call}
use Rattle.history.specs.declared.call.Answer.{Answer}
use Rattle.history.specs.Histories.{Standing, history}

pub history_all : (lines : Case → List Meaning) (st : Standing) (calls : List Call) (i : ℕ) (gs all : List Answer) → length calls ≤ i → gs ++ history lines st (drop i calls) ≡ all → gs ≡ all
history_all lines st calls i gs all le inv =
    sym (append-nil gs) ∙ ap (λ ks. gs ++ history lines st ks) (sym (drop_all i calls le)) ∙ inv
