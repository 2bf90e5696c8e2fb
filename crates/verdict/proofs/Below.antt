-- A test at each number below a bound.
use Rattle.std.proofs.Common.{◌≡◌, ℕ, zero, suc, ◌<◌, Bool, true, false, ◌&&◌, List, [], ◌∷◌, length, get_or, sym, refl, ap, ◌∙◌, inl, inr, zero-add, arith}
use Rattle.std.specs.List.{list_all, range_with_len}
use Rattle.std.proofs.lemmas.List.FromFn.{length-range_with_len, get_or-range_with_len}
use Rattle.std.proofs.Math.Bool.{and_assoc, and-true}
use Rattle.std.proofs.lemmas.Bool.{and_parts, and_cases, cases_eq}
use Rattle.verdict.specs.Checks.{all_below}

pub all_true : (n : ℕ) (t : ℕ → Bool) → all_below n t ≡ true → (i : ℕ) → i < n → t i ≡ true
all_true zero t e i h = absurd (omega arith)
all_true (suc n) t e i h =
    let both = and_parts (all_below n t) (t n) e in
    elim (cases_eq i n) [ inl here ↦ ap t here ∙ both.1 | inr other ↦ all_true n t both.0 i (omega arith) ]

pub all_false : (n : ℕ) (t : ℕ → Bool) → all_below n t ≡ false → (i : ℕ) × (i < n) × (t i ≡ false)
all_false zero t e = cc
all_false (suc n) t e =
    elim (and_cases (all_below n t) (t n) e) [
      | inl before ↦ let r = all_false n t before in (r.0, omega arith, r.2)
      | inr here ↦ (n, omega arith, here)
    ]

-- the same test
pub below_same : (n : ℕ) (t u : ℕ → Bool) → ((i : ℕ) → i < n → t i ≡ u i) → all_below n t ≡ all_below n u
below_same zero t u h = refl
below_same (suc n) t u h =
    ap (λ (b : Bool). b && t n) (below_same n t u (λ i k. h i (omega arith))) ∙ ap (λ (b : Bool). all_below n u && b) (h n (omega arith))

-- the same tests, with the first apart
first_apart : (n : ℕ) (t : ℕ → Bool) → all_below (suc n) t ≡ (t 0 && all_below n (λ i. t (suc i)))
first_apart zero t = sym (and-true (t 0))
first_apart (suc n) t =
    ap (λ (b : Bool). b && t (suc n)) (first_apart n t) ∙ and_assoc (t 0) (all_below n (λ i. t (suc i))) (t (suc n))

-- a test of each item of a list is one at each number below its length
pub all_listed : {X : Type 0} (t : X → Bool) (xs : List X) (d : X) → list_all t xs ≡ all_below (length xs) (λ i. t (get_or xs i d))
all_listed t [] d = refl
all_listed t (x ∷ xs) d =
    ap (λ (b : Bool). t x && b) (all_listed t xs d) ∙ sym (first_apart (length xs) (λ i. t (get_or (x ∷ xs) i d)))

-- and of each number of a range
pub all_ranged : (n : ℕ) (t : ℕ → Bool) → list_all t (range_with_len 0 n) ≡ all_below n t
all_ranged n t =
    all_listed t (range_with_len 0 n) 0
    ∙ ap (λ (m : ℕ). all_below m (λ i. t (get_or (range_with_len 0 n) i 0))) (length-range_with_len 0 n)
    ∙ below_same n (λ i. t (get_or (range_with_len 0 n) i 0)) t (λ i h. ap t (get_or-range_with_len 0 n i 0 h ∙ zero-add i))
