-- What lasts over one turn more.
use Rattle.std.proofs.Common.{◌≡◌, ◌⊎◌, List, [], ◌∷◌, ◌++◌, sym, refl, ap, ◌∙◌, subst, inl, inr, ⊎_elim}
use Rattle.std.specs.List.{AllByRecursion}
use Rattle.std.proofs.ByRecursion.{All-push}
use Rattle.std.proofs.lemmas.List.{append_assoc, same_from_push}
use Rattle.history.specs.Runs.{Turn, Lasts}

unsnoc : (xs : List Turn) → (xs ≡ []) ⊎ ((r : List Turn) × (x : Turn) × (xs ≡ r ++ (x ∷ [])))
unsnoc [] = inl refl
unsnoc (x ∷ xs) =
    inr (⊎_elim (λ e. ([], x, ap (λ ys. x ∷ ys) e)) (λ r. (x ∷ r.0, r.1, ap (λ ys. x ∷ ys) r.2)) (unsnoc xs))

-- a turn of h ++ (v ∷ []) is the last, or one of h
last_or : (h before since : List Turn) (v t : Turn) → h ++ (v ∷ []) ≡ before ++ (t ∷ since) → (v ≡ t) ⊎ ((r : List Turn) × (since ≡ r ++ (v ∷ [])) × (h ≡ before ++ (t ∷ r)))
last_or h before since v t e =
    ⊎_elim
    (λ n. inl (same_from_push h before v t (e ∙ ap (λ ys. before ++ (t ∷ ys)) n)).1)
    (λ r.
    let s = same_from_push h (before ++ (t ∷ r.0)) v r.1 (e ∙ ap (λ ys. before ++ (t ∷ ys)) r.2 ∙ sym (append_assoc before (t ∷ r.0) (r.1 ∷ []))) in
    inr (r.0, r.2 ∙ ap (λ x. r.0 ++ (x ∷ [])) (sym s.1), s.0))
    (unsnoc since)

all_split : {X : Type 0} (P : X → Type 0) (xs : List X) (x : X) → AllByRecursion P (xs ++ (x ∷ [])) → AllByRecursion P xs × P x
all_split P [] x h = (tt, h.0)
all_split P (y ∷ xs) x h = let r = all_split P xs x h.1 in ((h.0, r.0), r.1)

pub lasts_keep : (h : List Turn) (v t u : Turn) → (v ≡ u → ⊥) → Lasts h t u → Lasts (h ++ (v ∷ [])) t u
lasts_keep h v t u n s =
    (s.0, s.1 ++ (v ∷ []), ap (λ ys. ys ++ (v ∷ [])) s.2 ∙ append_assoc s.0 (t ∷ s.1) (v ∷ []), All-push (λ w. w ≡ u → ⊥) s.1 v s.3 n)

pub lasts_new : (h : List Turn) (t u : Turn) → Lasts (h ++ (t ∷ [])) t u
lasts_new h t u = (h, [], refl, tt)

pub lasts_back : (h : List Turn) (v t u : Turn) → Lasts (h ++ (v ∷ [])) t u → (v ≡ t) ⊎ (Lasts h t u × (v ≡ u → ⊥))
lasts_back h v t u s =
    ⊎_elim (λ e. inl e)
    (λ r. let a = all_split (λ w. w ≡ u → ⊥) r.0 v (subst (AllByRecursion (λ w. w ≡ u → ⊥)) r.1 s.3) in inr ((s.0, r.0, r.2, a.0), a.1))
    (last_or h s.0 s.1 v t s.2)

-- nothing lasts before the first turn
pub none_lasts : (t u : Turn) → Lasts [] t u → ⊥
none_lasts t u ([], since, e, n) = cc
none_lasts t u (v ∷ before, since, e, n) = cc
