-- What holds of an answer that is not refused.
use Rattle.std.proofs.Common.{◌≡◌, ℕ, ◌-◌, ◌<◌, Bool, true, false, ◌&&◌, leb, List, [], ◌∷◌, IfOk, Result, sym, refl, subst, arith}
use Rattle.std.proofs.lemmas.Bool.{and_parts, leb-true}
use Rattle.bolts.specs.Asked.{first_no}
use Rattle.bolts.specs.Loads.{total_load}
use Rattle.bolts.specs.declared.refusal.Refusal.{Refusal}
use Rattle.bolts.specs.declared.refusal.Refusal.TheVariants.{NoPlace, Allowance}
use Rattle.forces.specs.Cases.{Case}
use Rattle.failure.specs.Meanings.{Meaning}
use Rattle.verdict.specs.Lines.{line_count, line}
use Rattle.verdict.specs.Answers.{has, accurate, all_accurate, shown, verdict, granted, show_answer, rate_answer}
use Rattle.verdict.specs.Exact.{AllLawful}
use Rattle.verdict.specs.Faithful.{Faithful}
use Rattle.verdict.specs.declared.answer.Shown.{Shown}
use Rattle.verdict.specs.declared.answer.Verdict.{Verdict}

pub rated : (ms : List Meaning) (P : Verdict → Type 0) (r : Result Verdict Refusal) → r ≡ rate_answer ms → (all_accurate ms ≡ true → P (verdict ms)) → IfOk r P
rated ms P r e h = subst (λ (v : Result Verdict Refusal). IfOk v P) (sym e) (step (all_accurate ms) refl)
  where
    step : (t : Bool) → all_accurate ms ≡ t → IfOk (granted (first_no ((t, Allowance) ∷ [])) (verdict ms)) P
    step true k = h k
    step false k = tt

pub showed : (ms : List Meaning) (l p : ℕ) (P : Shown → Type 0) (r : Result Shown Refusal) → r ≡ show_answer ms l p → (has ms l p ≡ true → accurate (line ms l) ≡ true → P (shown ms l p)) → IfOk r P
showed ms l p P r e h = subst (λ (v : Result Shown Refusal). IfOk v P) (sym e) (step (has ms l p) (accurate (line ms l)) refl refl)
  where
    step : (t u : Bool) → has ms l p ≡ t → accurate (line ms l) ≡ u → IfOk (granted (first_no ((t, NoPlace) ∷ (u, Allowance) ∷ [])) (shown ms l p)) P
    step true true j k = h j k
    step true false j k = tt
    step false u j k = tt

pub faithful : (c : Case) (ms : List Meaning) (l p : ℕ) → AllLawful c ms → has ms l p ≡ true → accurate (line ms l) ≡ true → Faithful (total_load (line ms l).direction c.bolts) (line ms l) (p - 1) (shown ms l p)
faithful c ms l p law there fine =
    let a = (and_parts (leb 1 l) (leb l line_count && (leb 1 p && leb p (line ms l).places.count)) there).1 in
    let b = (and_parts (leb l line_count) (leb 1 p && leb p (line ms l).places.count) a).1 in
    let d = and_parts (leb 1 p) (leb p (line ms l).places.count) b in
    let low = leb-true 1 p d.0 in
    let high = leb-true p (line ms l).places.count d.1 in
    let at = law (l - 1) (p - 1) (omega arith) in
    let few : (line ms l).allowance < 2000 = omega (arith, leb-true (line ms l).allowance 600 fine) in
    record {
      effect_fits = at.effect_fits;
      resistance_fits = at.resistance_fits;
      effect_safe = at.effect_safe;
      resistance_safe = at.resistance_safe;
      effect_close = at.effect_close few;
      resistance_close = at.resistance_close few;
    }
