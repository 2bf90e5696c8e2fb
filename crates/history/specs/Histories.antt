-- The history of a load case, over plain lists of bolts: what each call is answered, and how the case stands after it.
-- The lines of a sheet are given by their meanings for each case.
--   Standing                 a case, and whether it is closed
--   start o                  a case just opened: no bolts, not closed
--   or_refused f r           the answer f of what was granted, or the refusal
--   answer_open c k          what the call k is answered on the open case c
--   answer_closed lines c k  what it is answered on the closed case c
--   answer_of lines st k     what it is answered on the case as it stands
--   done a                   the answer says that the call was done
--   with_bolts st xs         the same case with other bolts
--   changed k st             how the case stands after a call that was done
--   after st k a             how it stands after a call that was answered a: only what was done changes it
--   history lines st ks      the answers to the calls ks, one after the other
--   standing c               how a case of the code stands
use Rattle.std.specs.Prelude.{Bool, true, false, cond, List, [], ◌∷◌, Ok, Err, Result}
use Rattle.bolts.specs.Asked.{first_no}
use Rattle.bolts.specs.Bolts.{placed, lifted}
use Rattle.bolts.specs.Placing.{asked_of_place, asked_of_lift}
use Rattle.bolts.specs.declared.bolt.Bolt.{Bolt}
use Rattle.bolts.specs.declared.refusal.Refusal.{Refusal}
use Rattle.forces.specs.Cases.{Case, reach}
use Rattle.forces.specs.declared.opening.Opening.{Opening}
use Rattle.loadcase.specs.Held.{case_of}
use Rattle.loadcase.specs.Closed.{closed_case}
use Rattle.failure.specs.Meanings.{Meaning}
use Rattle.verdict.specs.Answers.{show_answer, rate_answer}
use Rattle.history.specs.declared.call.Call.{Call}
use Rattle.history.specs.declared.call.Call.TheVariants.{Place, Lift, Close, Reopen, Show, Rate}
use Rattle.history.specs.declared.call.Answer.{Answer}
use Rattle.history.specs.declared.call.Answer.TheVariants.{Done, Refused, Shown, Rated, OutOfTurn}
use Rattle.history.specs.declared.any_case.AnyCase.{AnyCase}
use Rattle.history.specs.declared.any_case.AnyCase.TheVariants.{Open, Closed}

pub record Standing : Type 0 where
  pub case : Case
  pub closed : Bool

abbrev pub start : Opening → Standing
start o = record { case = record { opening = o; bolts = [] }; closed = false }

abbrev pub or_refused : {X : Type 0} → (X → Answer) → Result X Refusal → Answer
or_refused f (Ok x) = f x
or_refused f (Err e) = Refused e

-- a call that is for closed cases only is out of turn
abbrev pub answer_open : Case → Call → Answer
answer_open c (Place b) = or_refused (λ _. Done) (first_no (asked_of_place (reach c.opening) c.bolts b))
answer_open c (Lift p) = or_refused (λ _. Done) (first_no (asked_of_lift c.bolts p))
answer_open c Close = Done
answer_open c Reopen = OutOfTurn
answer_open c (Show l p) = OutOfTurn
answer_open c Rate = OutOfTurn

-- a call that is for open cases only is out of turn
abbrev pub answer_closed : (Case → List Meaning) → Case → Call → Answer
answer_closed lines c (Place b) = OutOfTurn
answer_closed lines c (Lift p) = OutOfTurn
answer_closed lines c Close = OutOfTurn
answer_closed lines c Reopen = Done
answer_closed lines c (Show l p) = or_refused Shown (show_answer (lines c) l p)
answer_closed lines c Rate = or_refused Rated (rate_answer (lines c))

abbrev pub answer_of : (Case → List Meaning) → Standing → Call → Answer
answer_of lines st k = cond st.closed (answer_closed lines st.case k) (answer_open st.case k)

abbrev pub done : Answer → Bool
done Done = true
done (Refused e) = false
done (Shown f) = false
done (Rated v) = false
done OutOfTurn = false

abbrev with_bolts : Standing → List Bolt → Standing
with_bolts st xs = record { case = record { opening = st.case.opening; bolts = xs }; closed = st.closed }

abbrev pub changed : Call → Standing → Standing
changed (Place b) st = with_bolts st (placed b st.case.bolts)
changed (Lift p) st = with_bolts st (lifted p st.case.bolts)
changed Close st = record { case = st.case; closed = true }
changed Reopen st = record { case = st.case; closed = false }
changed (Show l p) st = st
changed Rate st = st

abbrev pub after : Standing → Call → Answer → Standing
after st k a = cond (done a) (changed k st) st

abbrev pub history : (Case → List Meaning) → Standing → List Call → List Answer
history lines st [] = []
history lines st (k ∷ ks) = answer_of lines st k ∷ history lines (after st k (answer_of lines st k)) ks

abbrev pub standing : AnyCase → Standing
standing (Open c) = record { case = case_of c; closed = false }
standing (Closed c) = record { case = closed_case c; closed = true }
