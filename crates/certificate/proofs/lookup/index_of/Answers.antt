use Rattle.std.proofs.Common.{◌≡◌, ℕ, ◌/◌, ◌<◌, ◌≤◌, List, length, Some, None, Option, MatchOption, arith, rules, tests}
use Rattle.std.proofs.lemmas.Iterator.{first_from_Range}
use Rattle.certificate.specs.Strengths.{strength_at}
use Rattle.certificate.specs.Lookup.{FirstAt}
use Rattle.certificate.proofs.lookup.index_of.Goals as goal

-- the first number that `find` answers is that of the first entry
first_at : (bs : List ℕ) (strength : ℕ) (o : Option ℕ) → MatchOption o ((k : ℕ) → 0 ≤ k → k < length bs / 4 → strength_at bs k ≡ strength → ⊥) (λ i. (0 ≤ i) × (i < length bs / 4) × (strength_at bs i ≡ strength) × ((k : ℕ) → 0 ≤ k → k < i → strength_at bs k ≡ strength → ⊥)) → FirstAt bs strength o
first_at bs strength None none = λ j h. none j (omega arith) h
first_at bs strength (Some k) (least, inside, wanted, earlier) = record { inside = inside; wanted = wanted; earlier = λ j h. earlier j (omega arith) h }

pub returns : goal.returns
returns c =
    let bs = c.args.list.now in
    let s = c.args.strength in
    first_at bs s c.find.result (first_from_Range _ _ _ c.find.result (λ k. strength_at bs k ≡ s) (λ k. strength_at bs k ≡ s → ⊥) c.find.ensures.ran (λ x q k. search (rules, tests)) (λ x q k. search (rules, tests)))
