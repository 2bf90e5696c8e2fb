use Rattle.std.proofs.Common.{◌≡◌, ◌⊎◌, inl, inr, ◌++◌, drop, length, Ok, vec_items, map-id, sym, ap, ◌∙◌, arith}
use Rattle.std.specs.Option.{option_to_list}
use Rattle.std.specs.declared.alloc.AllocError.{AllocError}
use Rattle.std.proofs.lemmas.Iterator.Adapters.{fact_from_extend, YieldsList-from_once}
use Rattle.std.specs.Iterator.Adapters.{zip_second}
use Rattle.std.specs.Slice.Iter.{iter_rest}
use Rattle.job.proofs.Scripting.{told_more, told_all}
use Rattle.job.proofs.telling.outcomes_of.Goals as goal

pub loop-number-preserved : goal.loop-number-preserved
loop-number-preserved c =
    let more : vec_items c.extend.new.self ≡ vec_items c.loop-number.outcomes ++ option_to_list c.outcome_of.result =
    fact_from_extend {E = AllocError} (λ x. x) (Ok tt) c.in_ok-extend.ensures.ran (λ it b. YieldsList-from_once _ b.0) (λ xs e h. h.0 ∙ ap (λ zs. vec_items c.loop-number.outcomes ++ zs) (sym (map-id xs) ∙ e)) in
    let steps = c.in-Some.ensures.steps in (
      told_more _ _ c.in-Some.line.now _ _ _ _ _ _ _ _ steps.1 steps.0.0 steps.0.1
          (more ∙ ap (λ xs. vec_items c.loop-number.outcomes ++ xs) c.outcome_of.ensures)
          (c.past-left.ensures ∙ ap (λ k. drop k c.loop-number.left.now) c.count_of.ensures) c.loop-number.invariant.0,
      omega (arith, steps.0.0, steps.0.1, ap length steps.1, c.loop-number.invariant.1),
    )

either : {A B C : Type 0} → A ⊎ B → (A → C) → (B → C) → C
either (inl a) f g = f a
either (inr b) f g = g b

pub returns : goal.returns
returns c =
    -- the numbers don't run out first: a list is far shorter
    let none : length (iter_rest (zip_second c.loop-number.number-iterator)) ≡ 0 =
    either c.in-None.ensures.steps (λ a. absurd (omega (arith, a.1.0, c.loop-number.invariant.1))) (λ b. b.1.0) in
    told_all _ _ _ _ _ none c.loop-number.invariant.0
