-- A case stays valid.
use Rattle.std.proofs.Common.{◌≡◌, ℕ, ◌≤◌, Bool, true, false, not, ◌&&◌, eqb, ltb, leb, List, [], ◌∷◌, Ok, filter, sym, refl, ap, ◌∙◌, arith}
use Rattle.std.specs.List.{AllByRecursion}
use Rattle.std.proofs.lemmas.Bool.{and_parts, leb-true, ltb-true}
use Rattle.std.proofs.lemmas.List.Sums.{length-filter, count_by-le-length}
use Rattle.std.proofs.ByRecursion.{All-get_or, All-from_get_or, All-append, all_kept_by}
use Rattle.bolts.specs.Asked.{first_no}
use Rattle.bolts.specs.Bolts.{no_bolt, Sound, placed, lifted}
use Rattle.bolts.specs.Loads.{loaded}
use Rattle.bolts.specs.Placing.{asked_of_place}
use Rattle.bolts.specs.declared.bolt.Bolt.{Bolt}
use Rattle.bolts.specs.declared.refusal.Refusal.{Refusal}
use Rattle.bolts.proofs.Rising.{spaced_placed, spaced_lifted, length-placed}
use Rattle.forces.specs.Cases.{Case, InRange, Valid, reach}
use Rattle.forces.specs.declared.opening.Opening.{Opening}
use Rattle.loadcase.specs.Opened.{in_range, opening_asked}
use Rattle.failure.specs.Meanings.{Meaning}
use Rattle.history.specs.declared.call.Call.{Call}
use Rattle.history.specs.declared.call.Call.TheVariants.{Place, Lift, Close, Reopen, Show, Rate}
use Rattle.history.specs.declared.call.Answer.{Answer}
use Rattle.history.specs.declared.call.Answer.TheVariants.{Done, Refused, Shown, Rated, OutOfTurn}
use Rattle.history.specs.Histories.{Standing, start, answer_of, after, changed}
use Rattle.history.proofs.Standings.{place_asked}

-- ---- a case just opened
between : (least most n : ℕ) → (leb least n && leb n most) ≡ true → (least ≤ n) × (n ≤ most)
between least most n h = let q = and_parts (leb least n) (leb n most) h in (leb-true least n q.0, leb-true n most q.1)

ranges : (o : Opening) → in_range o ≡ true → InRange o
ranges o h =
    let p = and_parts (leb 2 o.anchors && leb o.anchors 12) _ h in
    let q = and_parts (leb 500 o.spacing && leb o.spacing 2500) (leb 4000 o.inertia && leb o.inertia 200000) p.1 in
    let a = between 2 12 o.anchors p.0 in
    let s = between 500 2500 o.spacing q.0 in
    let i = between 4000 200000 o.inertia q.1 in
    record { two = a.0; twelve = a.1; wide = s.0; narrow = s.1; stiff = i.0; slender = i.1 }

yes : (b : Bool) (e : Refusal) → first_no ((b, e) ∷ []) ≡ Ok tt → b ≡ true
yes true e h = refl
yes false e h = cc

pub valid_new : (o : Opening) → first_no (opening_asked o) ≡ Ok tt → Valid (start o).case
valid_new o h =
    record { opened = ranges o (yes (in_range o) _ h); few = omega arith; spaced = λ k l. absurd (omega arith); sound = λ k l. absurd (omega arith) }

-- ---- one bolt more, or one less
abbrev Fit : ℕ → Bolt → Type 0
Fit r x = (x.position ≤ r) × (loaded x ≡ true)

each_fits : (r : ℕ) (xs : List Bolt) → Sound r xs → AllByRecursion (Fit r) xs
each_fits r xs s = All-from_get_or (Fit r) xs no_bolt s

sound_from : (r : ℕ) (xs : List Bolt) → AllByRecursion (Fit r) xs → Sound r xs
sound_from r xs a k h = All-get_or (Fit r) xs k no_bolt h a

sound_placed : (r : ℕ) (b : Bolt) (xs : List Bolt) → Fit r b → Sound r xs → Sound r (placed b xs)
sound_placed r b xs f s =
    let before : Bolt → Bool = λ x. ltb x.position b.position in
    let beyond : Bolt → Bool = λ x. ltb b.position x.position in
    let a = each_fits r xs s in
    sound_from r (placed b xs) (All-append (Fit r) (filter before xs) (b ∷ filter beyond xs) (all_kept_by before (Fit r) xs a) (f, all_kept_by beyond (Fit r) xs a))

sound_lifted : (r p : ℕ) (xs : List Bolt) → Sound r xs → Sound r (lifted p xs)
sound_lifted r p xs s =
    sound_from r (lifted p xs) (all_kept_by (λ x. not (eqb x.position p)) (Fit r) xs (each_fits r xs s))

valid_placed : (c : Case) (b : Bolt) → Valid c → AllByRecursion (λ q. q.0 ≡ true) (asked_of_place (reach c.opening) c.bolts b) → Valid (record { opening = c.opening; bolts = placed b c.bolts })
valid_placed c b v y =
    let clear = y.1.1.1.0 in
    let room = ltb-true _ _ y.1.1.0 in
    record {
      opened = v.opened;
      few = omega (arith, length-placed b c.bolts v.spaced clear);
      spaced = spaced_placed b c.bolts v.spaced clear;
      sound = sound_placed (reach c.opening) b c.bolts (leb-true _ _ y.0, y.1.0) v.sound;
    }

valid_lifted : (c : Case) (p : ℕ) → Valid c → Valid (record { opening = c.opening; bolts = lifted p c.bolts })
valid_lifted c p v =
    let other : Bolt → Bool = λ x. not (eqb x.position p) in
    record {
      opened = v.opened;
      few = omega (arith, v.few, length-filter other c.bolts, count_by-le-length other c.bolts);
      spaced = spaced_lifted p c.bolts v.spaced;
      sound = sound_lifted (reach c.opening) p c.bolts v.sound;
    }

-- ---- one turn more
valid_changed : (st : Standing) (k : Call) → ((b : Bolt) → k ≡ Place b → AllByRecursion (λ q. q.0 ≡ true) (asked_of_place (reach st.case.opening) st.case.bolts b)) → Valid st.case → Valid (changed k st).case
valid_changed st (Place b) y v = valid_placed st.case b v (y b refl)
valid_changed st (Lift p) y v = valid_lifted st.case p v
valid_changed st Close y v = v
valid_changed st Reopen y v = v
valid_changed st (Show l p) y v = v
valid_changed st Rate y v = v

valid_after : (st : Standing) (k : Call) (a : Answer) → ((b : Bolt) → k ≡ Place b → a ≡ Done → AllByRecursion (λ q. q.0 ≡ true) (asked_of_place (reach st.case.opening) st.case.bolts b)) → Valid st.case → Valid (after st k a).case
valid_after st k Done y v = valid_changed st k (λ b e. y b e refl) v
valid_after st k (Refused r) y v = v
valid_after st k (Shown f) y v = v
valid_after st k (Rated r) y v = v
valid_after st k OutOfTurn y v = v

pub valid_more : (lines : Case → List Meaning) (st : Standing) (k : Call) → Valid st.case → Valid (after st k (answer_of lines st k)).case
valid_more lines st k v =
    valid_after st k (answer_of lines st k) (λ b e d. place_asked lines st b (ap (answer_of lines st) (sym e) ∙ d)) v
