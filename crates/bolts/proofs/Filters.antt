-- What a filter keeps of a list, and membership in what is kept.
use Rattle.std.proofs.Common.{◌≡◌, ℕ, Bool, true, false, ◌⊎◌, List, [], ◌∷◌, ◌++◌, take, drop, filter, sym, refl, ap, ◌∙◌, inl, inr, ⊎_elim, take-append-drop}
use Rattle.std.specs.List.{All}
use Rattle.std.proofs.lemmas.Bool.{cases_Bool}
use Rattle.std.proofs.lemmas.List.Elements.{filter-append, All-head, All-tail}
use Rattle.std.proofs.lemmas.List.{append-nil}
use Rattle.bolts.specs.Bolts.{Among}
use Rattle.bolts.specs.declared.bolt.Bolt.{Bolt}

pub kept_by_all : {X : Type 0} (q : X → Bool) (xs : List X) → All (λ x. q x ≡ true) xs → filter q xs ≡ xs
kept_by_all q [] h = refl
kept_by_all q (x ∷ xs) h =
    rw (All-head (λ y. q y ≡ true) x xs h) (ap (λ ys. x ∷ ys) (kept_by_all q xs (All-tail (λ y. q y ≡ true) x xs h)))

kept_by_none : {X : Type 0} (q : X → Bool) (xs : List X) → All (λ x. q x ≡ false) xs → filter q xs ≡ []
kept_by_none q [] h = refl
kept_by_none q (x ∷ xs) h =
    rw (All-head (λ y. q y ≡ false) x xs h) (kept_by_none q xs (All-tail (λ y. q y ≡ false) x xs h))

pub kept_by_split : {X : Type 0} (q : X → Bool) (xs : List X) (i : ℕ) → filter q xs ≡ filter q (take i xs) ++ filter q (drop i xs)
kept_by_split q xs i = ap (filter q) (sym (take-append-drop i xs)) ∙ filter-append q (take i xs) (drop i xs)

-- those that pass come first
pub kept_by_front : {X : Type 0} (q : X → Bool) (xs : List X) (i : ℕ) → All (λ x. q x ≡ true) (take i xs) → All (λ x. q x ≡ false) (drop i xs) → filter q xs ≡ take i xs
kept_by_front q xs i f b = kept_by_split q xs i ∙ rw (kept_by_all q (take i xs) f, kept_by_none q (drop i xs) b) (append-nil (take i xs))

-- those that pass come last
pub kept_by_back : {X : Type 0} (q : X → Bool) (xs : List X) (i : ℕ) → All (λ x. q x ≡ false) (take i xs) → All (λ x. q x ≡ true) (drop i xs) → filter q xs ≡ drop i xs
kept_by_back q xs i f b = kept_by_split q xs i ∙ rw (kept_by_none q (take i xs) f, kept_by_all q (drop i xs) b)

pub among_left : (b : Bolt) (xs ys : List Bolt) → Among b xs → Among b (xs ++ ys)
among_left b [] ys h = absurd h
among_left b (x ∷ xs) ys h = ⊎_elim (λ e. inl e) (λ r. inr (among_left b xs ys r)) h

pub among_right : (b : Bolt) (xs ys : List Bolt) → Among b ys → Among b (xs ++ ys)
among_right b [] ys h = h
among_right b (x ∷ xs) ys h = inr (among_right b xs ys h)

pub among_cases : (b : Bolt) (xs ys : List Bolt) → Among b (xs ++ ys) → Among b xs ⊎ Among b ys
among_cases b [] ys h = inr h
among_cases b (x ∷ xs) ys h =
    ⊎_elim (λ e. inl (inl e)) (λ r. ⊎_elim (λ l. inl (inr l)) (λ s. inr s) (among_cases b xs ys r)) h

pub among_kept : (q : Bolt → Bool) (b : Bolt) (xs : List Bolt) → Among b (filter q xs) → Among b xs × (q b ≡ true)
among_kept q b [] h = absurd h
among_kept q b (x ∷ xs) h =
    ⊎_elim
    (λ t. let g : Among b (x ∷ filter q xs) = rw t at h in ⊎_elim (λ e. (inl e, ap q e ∙ t)) (λ r. let k = among_kept q b xs r in (inr k.0, k.1)) g)
    (λ f. let g : Among b (filter q xs) = rw f at h in let k = among_kept q b xs g in (inr k.0, k.1))
    (cases_Bool (q x))

pub kept_among : (q : Bolt → Bool) (b : Bolt) (xs : List Bolt) → Among b xs → q b ≡ true → Among b (filter q xs)
kept_among q b [] h t = absurd h
kept_among q b (x ∷ xs) h t =
    ⊎_elim
    (λ e. let u : q x ≡ true = ap q (sym e) ∙ t in rw u (inl e))
    (λ r. ⊎_elim (λ y. rw y (inr (kept_among q b xs r t))) (λ f. rw f (kept_among q b xs r t)) (cases_Bool (q x)))
    h

-- what holds of every bolt holds of one of them
pub all_among : (P : Bolt → Type 0) (b : Bolt) (xs : List Bolt) → All P xs → Among b xs → P b
all_among P b [] a h = absurd h
all_among P b (x ∷ xs) a h = ⊎_elim (λ e. rw e (All-head P x xs a)) (λ r. all_among P b xs (All-tail P x xs a) r) h
