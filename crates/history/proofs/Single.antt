-- The law on runs leaves one list of answers.
use Rattle.std.proofs.Common.{◌≡◌, ◌+◌, ◌≤◌, Bool, true, false, List, [], ◌∷◌, ◌++◌, length, sym, refl, ap, ◌∙◌, subst, inl, inr, ⊎_elim, arith}
use Rattle.std.proofs.lemmas.List.{append_assoc}
use Rattle.bolts.specs.Bolts.{Among}
use Rattle.bolts.specs.declared.bolt.Bolt.{Bolt}
use Rattle.bolts.proofs.Filters.{all_among}
use Rattle.bolts.proofs.Rising.{Rises, rises_from}
use Rattle.forces.specs.Cases.{Case}
use Rattle.forces.specs.declared.opening.Opening.{Opening}
use Rattle.failure.specs.Meanings.{Meaning}
use Rattle.history.specs.declared.call.Call.{Call}
use Rattle.history.specs.declared.call.Answer.{Answer}
use Rattle.history.specs.Histories.{Standing, answer_of}
use Rattle.history.specs.Runs.{Turn, turns, Holds, Stands, Follows}

-- two lists that rise and have the same bolts are one
same_bolts : (xs ys : List Bolt) → Rises xs → Rises ys → ((b : Bolt) → Among b xs → Among b ys) → ((b : Bolt) → Among b ys → Among b xs) → xs ≡ ys
same_bolts [] [] r s f g = refl
same_bolts [] (y ∷ ys) r s f g = absurd (g y (inl refl))
same_bolts (x ∷ xs) [] r s f g = absurd (f x (inl refl))
same_bolts (x ∷ xs) (y ∷ ys) r s f g =
    let far = λ (b : Bolt) (m : Among b xs). all_among (λ z. x.position + 300 ≤ z.position) b xs r.0 m in
    let off = λ (b : Bolt) (m : Among b ys). all_among (λ z. y.position + 300 ≤ z.position) b ys s.0 m in
    let head : x ≡ y = ⊎_elim (λ e. e) (λ m. ⊎_elim (λ e. sym e) (λ n. absurd (omega (arith, off x m, far y n))) (g y (inl refl))) (f x (inl refl)) in
    let at : x.position ≡ y.position = ap (λ (z : Bolt). z.position) head in
    let tail : xs ≡ ys =
    same_bolts xs ys r.1 s.1
    (λ b m. ⊎_elim (λ e. absurd (omega (arith, far b m, ap (λ (z : Bolt). z.position) e))) (λ n. n) (f b (inr m)))
    (λ b m. ⊎_elim (λ e. absurd (omega (arith, off b m, ap (λ (z : Bolt). z.position) e))) (λ n. n) (g b (inr m))) in
    ap (λ z. z ∷ xs) head ∙ ap (λ zs. y ∷ zs) tail

same_held : (h : List Turn) (xs ys : List Bolt) → Holds h xs → Holds h ys → xs ≡ ys
same_held h xs ys o p =
    same_bolts xs ys (rises_from xs o.rising) (rises_from ys p.rising) (λ b m. p.placed_held b (o.held_placed b m)) (λ b m. o.placed_held b (p.held_placed b m))

same_bool : (x y : Bool) → (x ≡ true → y ≡ true) → (y ≡ true → x ≡ true) → x ≡ y
same_bool true y f g = sym (f refl)
same_bool false true f g = g refl
same_bool false false f g = refl

-- the turns leave a case standing in one way
pub same_standing : (o : Opening) (h : List Turn) (s t : Standing) → Stands o h s → Stands o h t → s ≡ t
same_standing o h s t x y =
    let opening : s.case.opening ≡ t.case.opening = x.opened ∙ sym y.opened in
    let bolts = same_held h s.case.bolts t.case.bolts x.holds y.holds in
    let closed = same_bool s.closed t.closed (λ e. y.closed_by.was_closed (x.closed_by.is_closed e)) (λ e. x.closed_by.was_closed (y.closed_by.is_closed e)) in
    ap (λ p. record { case = record { opening = p; bolts = s.case.bolts }; closed = s.closed }) opening
    ∙ ap (λ bs. record { case = record { opening = t.case.opening; bolts = bs }; closed = s.closed }) bolts
    ∙ ap (λ z. record { case = t.case; closed = z }) closed

abbrev After : (Case → List Meaning) → Opening → List Turn → Turn → Type 0
After lines o h t = (st : Standing) × Stands o h st × (t.answer ≡ answer_of lines st t.call)

-- the law on the turns h that come after past
abbrev From : (Case → List Meaning) → Opening → List Turn → List Turn → Type 0
From lines o past h = (front : List Turn) (t : Turn) (rest : List Turn) → h ≡ front ++ (t ∷ rest) → After lines o (past ++ front) t

from_next : (lines : Case → List Meaning) (o : Opening) (past : List Turn) (u : Turn) (h : List Turn) → From lines o past (u ∷ h) → From lines o (past ++ (u ∷ [])) h
from_next lines o past u h l front t rest e =
    subst (λ d. After lines o d t) (sym (append_assoc past (u ∷ []) front)) (l (u ∷ front) t rest (ap (λ ts. u ∷ ts) e))

one : (lines : Case → List Meaning) (o : Opening) (past : List Turn) (calls : List Call) (gs hs : List Answer) → length gs ≡ length calls → length hs ≡ length calls → From lines o past (turns calls gs) → From lines o past (turns calls hs) → gs ≡ hs
one lines o past [] [] [] a b l r = refl
one lines o past [] [] (h ∷ hs) a b l r = absurd (omega arith)
one lines o past [] (g ∷ gs) hs a b l r = absurd (omega arith)
one lines o past (k ∷ ks) [] hs a b l r = absurd (omega arith)
one lines o past (k ∷ ks) (g ∷ gs) [] a b l r = absurd (omega arith)
one lines o past (k ∷ ks) (g ∷ gs) (h ∷ hs) a b l r =
    let u : Turn = record { call = k; answer = g } in
    let v : Turn = record { call = k; answer = h } in
    let x = l [] u (turns ks gs) refl in
    let y = r [] v (turns ks hs) refl in
    let same : g ≡ h = x.2 ∙ ap (λ st. answer_of lines st k) (same_standing o (past ++ []) x.0 y.0 x.1 y.1) ∙ sym y.2 in
    let r' : From lines o past (u ∷ turns ks hs) = subst (λ z. From lines o past (record { call = k; answer = z } ∷ turns ks hs)) (sym same) r in
    let rest : gs ≡ hs = one lines o (past ++ (u ∷ [])) ks gs hs (omega arith) (omega arith) (from_next lines o past u (turns ks gs) l) (from_next lines o past u (turns ks hs) r') in
    ap (λ z. z ∷ gs) same ∙ ap (λ zs. h ∷ zs) rest

pub single : (lines : Case → List Meaning) (o : Opening) (calls : List Call) (gs hs : List Answer) → Follows lines o calls gs → Follows lines o calls hs → gs ≡ hs
single lines o calls gs hs f g = one lines o [] calls gs hs f.as_many g.as_many f.answered g.answered
