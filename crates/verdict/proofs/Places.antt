-- The utilisation that counts at a place: of the right kind, or 0.
use Rattle.std.proofs.Common.{◌≡◌, ℕ, zero, suc, ◌<◌, ◌≤◌, max, true, ◌&&◌, ltb, refl, ap, ◌∙◌, inl, inr, arith}
use Rattle.std.proofs.lemmas.Bool.{ltb-true, lt-ltb, and_parts, and_from, cond-true, cond_both, cases_lt, cases_eq}
use Rattle.failure.specs.Meanings.{Meaning}
use Rattle.failure.specs.declared.places.PlaceKind.{PlaceKind}
use Rattle.failure.specs.declared.places.PlaceKind.TheVariants.{Bolts, Anchors, Nothing}
use Rattle.verdict.specs.Utilisations.{utilisation, same_kind, used, largest_of, largest}

same_kind_self : (k : PlaceKind) → same_kind k k ≡ true
same_kind_self Bolts = refl
same_kind_self Anchors = refl
same_kind_self Nothing = refl

kind_is : (k j : PlaceKind) → same_kind k j ≡ true → j ≡ k
kind_is Bolts Bolts e = refl
kind_is Bolts Anchors e = cc
kind_is Bolts Nothing e = cc
kind_is Anchors Bolts e = cc
kind_is Anchors Anchors e = refl
kind_is Anchors Nothing e = cc
kind_is Nothing Bolts e = cc
kind_is Nothing Anchors e = cc
kind_is Nothing Nothing e = refl

-- where the line has such a place
pub used_here : (k : PlaceKind) (m : Meaning) (i : ℕ) → m.places.kind ≡ k → i < m.places.count → used k m i ≡ utilisation m i
used_here k m i is h =
    let same : same_kind k m.places.kind ≡ true = ap (same_kind k) is ∙ same_kind_self k in
    cond-true _ _ _ (and_from _ _ same (lt-ltb i m.places.count h))

-- what holds of 0, and of the utilisation where the line has such a place
pub used_either : (k : PlaceKind) (m : Meaning) (i : ℕ) (P : ℕ → Type 0) → (m.places.kind ≡ k → i < m.places.count → P (utilisation m i)) → P 0 → P (used k m i)
used_either k m i P here none =
    cond_both (same_kind k m.places.kind && ltb i m.places.count) (utilisation m i) 0 P
    (λ e. let both = and_parts (same_kind k m.places.kind) (ltb i m.places.count) e in
    here (kind_is k m.places.kind both.0) (ltb-true i m.places.count both.1))
    (λ e. none)

-- the largest is at least each
largest_of_most : (m : Meaning) (n i : ℕ) → i < n → utilisation m i ≤ largest_of m n
largest_of_most m zero i h = absurd (omega arith)
largest_of_most m (suc n) i h =
    elim (cases_eq i n) [
      | inl here ↦ omega (arith, ap (utilisation m) here)
      | inr other ↦ omega (arith, largest_of_most m n i (omega arith))
    ]

pub largest_most : (m : Meaning) (i : ℕ) → i < m.places.count → utilisation m i ≤ largest m
unfolding largest
largest_most m i h = largest_of_most m m.places.count i h

-- and it is 0 or one of them
largest_of_either : (m : Meaning) (n : ℕ) (P : ℕ → Type 0) → ((i : ℕ) → i < n → P (utilisation m i)) → P 0 → P (largest_of m n)
largest_of_either m zero P each none = none
largest_of_either m (suc n) P each none =
    let rest = largest_of_either m n P (λ i h. each i (omega arith)) none in
    elim (cases_lt (largest_of m n) (utilisation m n)) [
      | inl less ↦ let e : max (largest_of m n) (utilisation m n) ≡ utilisation m n = omega arith in rw e (each n (omega arith))
      | inr fine ↦ let e : max (largest_of m n) (utilisation m n) ≡ largest_of m n = omega arith in rw e rest
    ]

pub largest_either : (m : Meaning) (P : ℕ → Type 0) → ((i : ℕ) → i < m.places.count → P (utilisation m i)) → P 0 → P (largest m)
unfolding largest
largest_either m P each none = largest_of_either m m.places.count P each none
