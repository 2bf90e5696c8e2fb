-- The answers of the history follow the law on runs.
use Rattle.std.proofs.Common.{◌≡◌, suc, Bool, true, false, List, [], ◌∷◌, ◌++◌, length, Ok, Err, Result, sym, refl, ap, ◌∙◌, subst}
use Rattle.std.specs.List.{AllByRecursion}
use Rattle.std.proofs.lemmas.Bool.{and_parts}
use Rattle.std.proofs.lemmas.List.{append_assoc, append-nil}
use Rattle.bolts.specs.Asked.{first_no}
use Rattle.bolts.specs.declared.refusal.Refusal.{Refusal}
use Rattle.forces.specs.Cases.{Case, Valid}
use Rattle.forces.specs.declared.opening.Opening.{Opening}
use Rattle.loadcase.specs.Opened.{opening_asked}
use Rattle.failure.specs.Meanings.{Meaning}
use Rattle.history.specs.declared.call.Call.{Call}
use Rattle.history.specs.declared.call.Call.TheVariants.{Place, Lift, Close, Reopen, Show, Rate}
use Rattle.history.specs.declared.call.Answer.{Answer}
use Rattle.history.specs.declared.call.Answer.TheVariants.{Done, Refused, Shown, Rated, OutOfTurn}
use Rattle.history.specs.Histories.{Standing, start, or_refused, answer_of, changed, after, history}
use Rattle.history.specs.Runs.{Turn, turns, Stands, EachTurn, fits, then_closed, builds}
use Rattle.history.proofs.Standings.{stands_more, stands_new}
use Rattle.history.proofs.Validity.{valid_new, valid_more}

heads : {X : Type 0} (x y : X) (xs ys : List X) → x ∷ xs ≡ y ∷ ys → (x ≡ y) × (xs ≡ ys)
heads x y xs ys e = (cc, cc)

-- what is told of a turn by a case that stands so
abbrev pub Told : (Case → List Meaning) → Standing → Turn → Type 0
Told lines st t = Valid st.case × (t.answer ≡ answer_of lines st t.call)

abbrev After : (Case → List Meaning) → Opening → List Turn → Turn → Type 0
After lines o h t = (st : Standing) × Stands o h st × Told lines st t

run_law : (lines : Case → List Meaning) (o : Opening) (st : Standing) (past : List Turn) (calls : List Call) → Stands o past st → Valid st.case → (front : List Turn) (t : Turn) (rest : List Turn) → turns calls (history lines st calls) ≡ front ++ (t ∷ rest) → After lines o (past ++ front) t
run_law lines o st past [] s v [] t rest e = cc
run_law lines o st past [] s v (u ∷ front) t rest e = cc
run_law lines o st past (k ∷ ks) s v [] t rest e =
    let a : Answer = answer_of lines st k in
    let u : Turn = record { call = k; answer = a } in
    let same : u ≡ t = (heads u t (turns ks (history lines (after st k a) ks)) rest e).0 in
    let here : After lines o past u = (st, s, (v, refl)) in
    subst (λ h. After lines o h t) (sym (append-nil past)) (subst (After lines o past) same here)
run_law lines o st past (k ∷ ks) s v (w ∷ front) t rest e =
    let a : Answer = answer_of lines st k in
    let u : Turn = record { call = k; answer = a } in
    let parts = heads u w (turns ks (history lines (after st k a) ks)) (front ++ (t ∷ rest)) e in
    let r = run_law lines o (after st k a) (past ++ (u ∷ [])) ks (stands_more lines o past st k s) (valid_more lines st k v) front t rest parts.1 in
    subst (λ h. After lines o h t) (append_assoc past (u ∷ []) front ∙ ap (λ x. past ++ (x ∷ front)) parts.0) r

pub each_told : (lines : Case → List Meaning) (o : Opening) (calls : List Call) → first_no (opening_asked o) ≡ Ok tt → EachTurn o (turns calls (history lines (start o) calls)) (Told lines)
each_told lines o calls n before t rest e = run_law lines o (start o) [] calls (stands_new o) (valid_new o n) before t rest e

pub length-history : (lines : Case → List Meaning) (st : Standing) (calls : List Call) → length (history lines st calls) ≡ length calls
length-history lines st [] = refl
length-history lines st (k ∷ ks) = ap suc (length-history lines (after st k (answer_of lines st k)) ks)

-- ---- an order that builds
in_turn : {X : Type 0} (f : X → Answer) → ((x : X) → f x ≡ OutOfTurn → ⊥) → (r : Result X Refusal) → or_refused f r ≡ OutOfTurn → ⊥
in_turn f n (Ok x) e = n x e
in_turn f n (Err x) e = cc

one_in : (lines : Case → List Meaning) (c : Case) (closed : Bool) (k : Call) → fits closed k ≡ true → answer_of lines (record { case = c; closed = closed }) k ≡ OutOfTurn → ⊥
one_in lines c true (Place b) h e = cc
one_in lines c false (Place b) h e = in_turn (λ _. Done) (λ x d. cc) _ e
one_in lines c true (Lift p) h e = cc
one_in lines c false (Lift p) h e = in_turn (λ _. Done) (λ x d. cc) _ e
one_in lines c true Close h e = cc
one_in lines c false Close h e = cc
one_in lines c true Reopen h e = cc
one_in lines c false Reopen h e = cc
one_in lines c true (Show l p) h e = in_turn Shown (λ x d. cc) _ e
one_in lines c false (Show l p) h e = cc
one_in lines c true Rate h e = in_turn Rated (λ x d. cc) _ e
one_in lines c false Rate h e = cc

closed_kept : (st : Standing) (k : Call) (a : Answer) → (changed k st).closed ≡ st.closed → (after st k a).closed ≡ st.closed
closed_kept st k Done e = e
closed_kept st k (Refused r) e = refl
closed_kept st k (Shown f) e = refl
closed_kept st k (Rated v) e = refl
closed_kept st k OutOfTurn e = refl

closed_then : (lines : Case → List Meaning) (c : Case) (closed : Bool) (k : Call) → fits closed k ≡ true → (after (record { case = c; closed = closed }) k (answer_of lines (record { case = c; closed = closed }) k)).closed ≡ then_closed closed k
closed_then lines c closed (Place b) h = closed_kept (record { case = c; closed = closed }) (Place b) _ refl
closed_then lines c closed (Lift p) h = closed_kept (record { case = c; closed = closed }) (Lift p) _ refl
closed_then lines c true Close h = cc
closed_then lines c false Close h = refl
closed_then lines c true Reopen h = refl
closed_then lines c false Reopen h = cc
closed_then lines c closed (Show l p) h = closed_kept (record { case = c; closed = closed }) (Show l p) _ refl
closed_then lines c closed Rate h = closed_kept (record { case = c; closed = closed }) Rate _ refl

all_in : (lines : Case → List Meaning) (st : Standing) (calls : List Call) → builds st.closed calls ≡ true → AllByRecursion (λ g. g ≡ OutOfTurn → ⊥) (history lines st calls)
all_in lines st [] h = tt
all_in lines st (k ∷ ks) h =
    let p = and_parts (fits st.closed k) (builds (then_closed st.closed k) ks) h in
    let next : (after st k (answer_of lines st k)).closed ≡ then_closed st.closed k = closed_then lines st.case st.closed k p.0 in
    (one_in lines st.case st.closed k p.0, all_in lines (after st k (answer_of lines st k)) ks (ap (λ x. builds x ks) next ∙ p.1))

pub never_out : (lines : Case → List Meaning) (o : Opening) (calls : List Call) → builds false calls ≡ true → AllByRecursion (λ g. g ≡ OutOfTurn → ⊥) (history lines (start o) calls)
never_out lines o calls h = all_in lines (start o) calls h
