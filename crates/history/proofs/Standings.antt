-- How a case stands after one turn more.
use Rattle.std.proofs.Common.{◌≡◌, ℕ, Bool, true, false, cond, List, [], ◌∷◌, ◌++◌, sym, refl, ap, ◌∙◌, ⊎_elim, arith}
use Rattle.std.specs.List.{AllByRecursion}
use Rattle.bolts.specs.Asked.{Asked, first_no}
use Rattle.bolts.specs.Bolts.{clear, placed, lifted}
use Rattle.bolts.specs.Placing.{asked_of_place}
use Rattle.bolts.specs.declared.bolt.Bolt.{Bolt}
use Rattle.bolts.proofs.Rising.{spaced_placed, spaced_lifted}
use Rattle.bolts.proofs.Placed.{placed_joins}
use Rattle.bolts.proofs.Lifted.{lifted_parts}
use Rattle.forces.specs.Cases.{Case, reach}
use Rattle.forces.specs.declared.opening.Opening.{Opening}
use Rattle.failure.specs.Meanings.{Meaning}
use Rattle.history.specs.declared.call.Call.{Call}
use Rattle.history.specs.declared.call.Call.TheVariants.{Place, Lift, Close, Reopen, Show, Rate}
use Rattle.history.specs.declared.call.Answer.{Answer}
use Rattle.history.specs.declared.call.Answer.TheVariants.{Done, Refused, Shown, Rated, OutOfTurn}
use Rattle.history.specs.Histories.{Standing, start, or_refused, answer_of, after, changed}
use Rattle.history.specs.Runs.{Turn, placing, lifting, closing, reopening, Holds, ClosedBy, Stands}
use Rattle.history.proofs.Lasting.{lasts_keep, lasts_new, lasts_back, none_lasts}

-- turns that are told apart by their calls
abbrev turn : Call → Answer → Turn
turn k a = record { call = k; answer = a }

calls_differ : (k j : Call) (a b : Answer) → (k ≡ j → ⊥) → turn k a ≡ turn j b → ⊥
calls_differ k j a b n e = n (ap (λ (t : Turn). t.call) e)

answers_differ : (k j : Call) (a b : Answer) → (a ≡ b → ⊥) → turn k a ≡ turn j b → ⊥
answers_differ k j a b n e = n (ap (λ (t : Turn). t.answer) e)

place_is : (b y : Bolt) → placing b ≡ placing y → b ≡ y
place_is b y e = let f : Place b ≡ Place y = ap (λ (t : Turn). t.call) e in cc

lift_is : (p q : ℕ) → lifting p ≡ lifting q → p ≡ q
lift_is p q e = let f : Lift p ≡ Lift q = ap (λ (t : Turn). t.call) e in cc

not_lifting : (b : Bolt) (p : ℕ) → placing b ≡ lifting p → ⊥
not_lifting b p e = let f : Place b ≡ Lift p = ap (λ (t : Turn). t.call) e in cc

not_placing : (p : ℕ) (b : Bolt) → lifting p ≡ placing b → ⊥
not_placing p b e = not_lifting b p (sym e)

module _ (h : List Turn) (xs : List Bolt) (o : Holds h xs) where
  -- a turn that neither places nor lifts
  holds_same : (t : Turn) → ((b : Bolt) → t ≡ placing b → ⊥) → ((p : ℕ) → t ≡ lifting p → ⊥) → Holds (h ++ (t ∷ [])) xs
  holds_same t np nl = record {
    rising = o.rising;
    held_placed = λ b a. lasts_keep h t _ _ (nl b.position) (o.held_placed b a);
    placed_held = λ b s. ⊎_elim (λ e. absurd (np b e)) (λ r. o.placed_held b r.0) (lasts_back h t (placing b) (lifting b.position) s);
  }

  holds_placed : (b : Bolt) → clear b.position xs ≡ true → Holds (h ++ (placing b ∷ [])) (placed b xs)
  holds_placed b e =
      let j = placed_joins b xs e in
      record {
        rising = spaced_placed b xs o.rising e;
        held_placed = λ y a.
            ⊎_elim
            (λ q. rw q (lasts_new h (placing b) (lifting b.position)))
            (λ m. lasts_keep h (placing b) _ _ (not_lifting b y.position) (o.held_placed y m))
            (j.only y a);
        placed_held = λ y s.
            ⊎_elim
            (λ q. rw (sym (place_is b y q)) j.has)
            (λ r. j.keeps y (o.placed_held y r.0))
            (lasts_back h (placing b) (placing y) (lifting y.position) s);
      }

  holds_lifted : (p : ℕ) → Holds (h ++ (lifting p ∷ [])) (lifted p xs)
  holds_lifted p =
      let j = lifted_parts p xs in
      record {
        rising = spaced_lifted p xs o.rising;
        held_placed = λ y a.
            lasts_keep h (lifting p) _ _ (λ e. j.gone y a (sym (lift_is p y.position e))) (o.held_placed y (j.only y a));
        placed_held = λ y s.
            ⊎_elim
            (λ e. absurd (not_placing p y e))
            (λ r. j.keeps y (o.placed_held y r.0) (λ e. r.1 (ap lifting (sym e))))
            (lasts_back h (lifting p) (placing y) (lifting y.position) s);
      }

module _ (h : List Turn) (x : Bool) (o : ClosedBy h x) where
  -- a turn that neither closes nor reopens
  closed_same : (t : Turn) → (t ≡ closing → ⊥) → (t ≡ reopening → ⊥) → ClosedBy (h ++ (t ∷ [])) x
  closed_same t nc nr = record {
    is_closed = λ e. lasts_keep h t closing reopening nr (o.is_closed e);
    was_closed = λ s. ⊎_elim (λ e. absurd (nc e)) (λ r. o.was_closed r.0) (lasts_back h t closing reopening s);
  }

closed_closing : (h : List Turn) → ClosedBy (h ++ (closing ∷ [])) true
closed_closing h = record { is_closed = λ e. lasts_new h closing reopening; was_closed = λ s. refl }

closed_reopening : (h : List Turn) → ClosedBy (h ++ (reopening ∷ [])) false
closed_reopening h = record {
  is_closed = λ e. cc;
  was_closed = λ s.
      ⊎_elim (λ e. let f : Reopen ≡ Close = ap (λ (t : Turn). t.call) e in cc) (λ r. absurd (r.1 refl)) (lasts_back h reopening closing reopening s);
}

module _ (o : Opening) (h : List Turn) (st : Standing) (s : Stands o h st) where
  -- a call that was not done changes nothing
  stands_idle : (k : Call) (a : Answer) → (a ≡ Done → ⊥) → Stands o (h ++ (turn k a ∷ [])) st
  stands_idle k a n = record {
    opened = s.opened;
    holds = holds_same h st.case.bolts s.holds (turn k a) (λ b. answers_differ k (Place b) a Done n) (λ p. answers_differ k (Lift p) a Done n);
    closed_by = closed_same h st.closed s.closed_by (turn k a) (answers_differ k Close a Done n) (answers_differ k Reopen a Done n);
  }

  stands_done : (k : Call) → ((b : Bolt) → k ≡ Place b → clear b.position st.case.bolts ≡ true) → Stands o (h ++ (turn k Done ∷ [])) (changed k st)
  stands_done (Place b) c = record {
    opened = s.opened;
    holds = holds_placed h st.case.bolts s.holds b (c b refl);
    closed_by = closed_same h st.closed s.closed_by (placing b) (calls_differ (Place b) Close Done Done (λ e. cc)) (calls_differ (Place b) Reopen Done Done (λ e. cc));
  }
  stands_done (Lift p) c = record {
    opened = s.opened;
    holds = holds_lifted h st.case.bolts s.holds p;
    closed_by = closed_same h st.closed s.closed_by (lifting p) (calls_differ (Lift p) Close Done Done (λ e. cc)) (calls_differ (Lift p) Reopen Done Done (λ e. cc));
  }
  stands_done Close c = record {
    opened = s.opened;
    holds = holds_same h st.case.bolts s.holds closing (λ b. calls_differ Close (Place b) Done Done (λ e. cc)) (λ p. calls_differ Close (Lift p) Done Done (λ e. cc));
    closed_by = closed_closing h;
  }
  stands_done Reopen c = record {
    opened = s.opened;
    holds = holds_same h st.case.bolts s.holds reopening (λ b. calls_differ Reopen (Place b) Done Done (λ e. cc)) (λ p. calls_differ Reopen (Lift p) Done Done (λ e. cc));
    closed_by = closed_reopening h;
  }
  stands_done (Show l p) c = record {
    opened = s.opened;
    holds = holds_same h st.case.bolts s.holds (turn (Show l p) Done) (λ b. calls_differ (Show l p) (Place b) Done Done (λ e. cc)) (λ q. calls_differ (Show l p) (Lift q) Done Done (λ e. cc));
    closed_by = closed_same h st.closed s.closed_by (turn (Show l p) Done) (calls_differ (Show l p) Close Done Done (λ e. cc)) (calls_differ (Show l p) Reopen Done Done (λ e. cc));
  }
  stands_done Rate c = record {
    opened = s.opened;
    holds = holds_same h st.case.bolts s.holds (turn Rate Done) (λ b. calls_differ Rate (Place b) Done Done (λ e. cc)) (λ q. calls_differ Rate (Lift q) Done Done (λ e. cc));
    closed_by = closed_same h st.closed s.closed_by (turn Rate Done) (calls_differ Rate Close Done Done (λ e. cc)) (calls_differ Rate Reopen Done Done (λ e. cc));
  }

  stands_after : (k : Call) (a : Answer) → ((b : Bolt) → k ≡ Place b → a ≡ Done → clear b.position st.case.bolts ≡ true) → Stands o (h ++ (turn k a ∷ [])) (after st k a)
  stands_after k Done c = stands_done k (λ b e. c b e refl)
  stands_after k (Refused r) c = stands_idle k (Refused r) (λ e. cc)
  stands_after k (Shown f) c = stands_idle k (Shown f) (λ e. cc)
  stands_after k (Rated v) c = stands_idle k (Rated v) (λ e. cc)
  stands_after k OutOfTurn c = stands_idle k OutOfTurn (λ e. cc)

-- what was granted had every question answered yes
all_yes : (qs : Asked) → or_refused (λ _. Done) (first_no qs) ≡ Done → AllByRecursion (λ q. q.0 ≡ true) qs
all_yes [] e = tt
all_yes ((true, r) ∷ qs) e = (refl, all_yes qs e)
all_yes ((false, r) ∷ qs) e = cc

done_open : (closed : Bool) (a : Answer) → cond closed OutOfTurn a ≡ Done → a ≡ Done
done_open true a e = cc
done_open false a e = e

-- what is asked of a place that was done
pub place_asked : (lines : Case → List Meaning) (st : Standing) (b : Bolt) → answer_of lines st (Place b) ≡ Done → AllByRecursion (λ q. q.0 ≡ true) (asked_of_place (reach st.case.opening) st.case.bolts b)
place_asked lines st b e =
    all_yes (asked_of_place (reach st.case.opening) st.case.bolts b) (done_open st.closed _ e)

pub stands_more : (lines : Case → List Meaning) (o : Opening) (h : List Turn) (st : Standing) (k : Call) → Stands o h st → Stands o (h ++ (turn k (answer_of lines st k) ∷ [])) (after st k (answer_of lines st k))
stands_more lines o h st k s =
    stands_after o h st s k (answer_of lines st k) (λ b e d. (place_asked lines st b (ap (answer_of lines st) (sym e) ∙ d)).1.1.1.0)

pub stands_new : (o : Opening) → Stands o [] (start o)
stands_new o = record {
  opened = refl;
  holds = record { rising = λ k h. absurd (omega arith); held_placed = λ b a. absurd a; placed_held = λ b s. absurd (none_lasts _ _ s) };
  closed_by = record { is_closed = λ e. cc; was_closed = λ s. absurd (none_lasts _ _ s) };
}
