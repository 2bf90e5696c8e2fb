-- The law on runs: what holds at every turn of a list of calls, said by what came before the turn.
--   Turn, turns ks gs           a call with its answer; the calls ks with the answers gs
--   placing, lifting, closing, reopening, showing, rating   a turn whose call was granted
--   Lasts h t u                 the turn t came among h, and u did not come since
--   Holds h xs                  the bolts xs are exactly those placed and not lifted since, in rising position
--   ClosedBy h x                x says whether the case was closed and not reopened since
--   Stands o h st               how a case opened with o stands after the turns h
--   EachTurn o h P              P holds of every turn of h and of how the case stands before it
--   Answered lines o h          every turn is answered as a case is that stands so
--   Follows lines o ks gs       the law: each call has an answer, and every turn is answered so
--   fits x k, builds x ks       the call builds, or the calls in this order do, on a closed case, with x false on an open one
--   then-closed x k             whether the case is closed after a call that fits
use Rattle.std.specs.Prelude.{◌≡◌, ℕ, Bool, true, false, not, ◌&&◌, List, [], ◌∷◌, ◌++◌, length, ◌≢◌}
use Rattle.std.specs.List.{AllByRecursion}
use Rattle.bolts.specs.Bolts.{Spaced, Among}
use Rattle.bolts.specs.declared.bolt.Bolt.{Bolt}
use Rattle.forces.specs.Cases.{Case}
use Rattle.forces.specs.declared.opening.Opening.{Opening}
use Rattle.failure.specs.Meanings.{Meaning}
use Rattle.verdict.specs.declared.answer.Shown as figures
use Rattle.verdict.specs.declared.answer.Verdict.{Verdict}
use Rattle.history.specs.declared.call.Call.{Call}
use Rattle.history.specs.declared.call.Call.TheVariants.{Place, Lift, Close, Reopen, Show, Rate}
use Rattle.history.specs.declared.call.Answer.{Answer}
use Rattle.history.specs.declared.call.Answer.TheVariants.{Done, Shown, Rated}
use Rattle.history.specs.Histories.{Standing, answer_of}

pub record Turn : Type 0 where
  pub call : Call
  pub answer : Answer

abbrev pub turns : List Call → List Answer → List Turn
turns [] gs = []
turns (k ∷ ks) [] = []
turns (k ∷ ks) (g ∷ gs) = record { call = k; answer = g } ∷ turns ks gs

abbrev pub placing : Bolt → Turn
placing b = record { call = Place b; answer = Done }

abbrev pub lifting : ℕ → Turn
lifting p = record { call = Lift p; answer = Done }

abbrev pub closing : Turn
closing = record { call = Close; answer = Done }

abbrev pub reopening : Turn
reopening = record { call = Reopen; answer = Done }

abbrev pub showing : ℕ → ℕ → figures.Shown → Turn
showing l p f = record { call = Show l p; answer = Shown f }

abbrev pub rating : Verdict → Turn
rating v = record { call = Rate; answer = Rated v }

abbrev pub Lasts : List Turn → Turn → Turn → Type 0
Lasts h t u = (before : List Turn) × (since : List Turn) × (h ≡ before ++ (t ∷ since)) × AllByRecursion (λ v. v ≢ u) since

pub record Holds (h : List Turn) (xs : List Bolt) : Type 0 where
  pub rising : Spaced xs
  pub held_placed : (b : Bolt) → Among b xs → Lasts h (placing b) (lifting b.position)
  pub placed_held : (b : Bolt) → Lasts h (placing b) (lifting b.position) → Among b xs

pub record ClosedBy (h : List Turn) (closed : Bool) : Type 0 where
  pub is_closed : closed ≡ true → Lasts h closing reopening
  pub was_closed : Lasts h closing reopening → closed ≡ true

pub record Stands (o : Opening) (h : List Turn) (st : Standing) : Type 0 where
  pub opened : st.case.opening ≡ o
  pub holds : Holds h st.case.bolts
  pub closed_by : ClosedBy h st.closed

abbrev pub EachTurn : Opening → List Turn → (Standing → Turn → Type 0) → Type 0
EachTurn o h P =
    (before : List Turn) (t : Turn) (rest : List Turn) → h ≡ before ++ (t ∷ rest) → (st : Standing) × Stands o before st × P st t

abbrev pub Answered : (Case → List Meaning) → Opening → List Turn → Type 0
Answered lines o h = EachTurn o h (λ st t. t.answer ≡ answer_of lines st t.call)

pub record Follows (lines : Case → List Meaning) (o : Opening) (calls : List Call) (answers : List Answer) : Type 0 where
  pub as_many : length answers ≡ length calls
  pub answered : Answered lines o (turns calls answers)

abbrev pub fits : Bool → Call → Bool
fits closed (Place b) = not closed
fits closed (Lift p) = not closed
fits closed Close = not closed
fits closed Reopen = closed
fits closed (Show l p) = closed
fits closed Rate = closed

abbrev pub then_closed : Bool → Call → Bool
then_closed closed (Place b) = closed
then_closed closed (Lift p) = closed
then_closed closed Close = true
then_closed closed Reopen = false
then_closed closed (Show l p) = closed
then_closed closed Rate = closed

abbrev pub builds : Bool → List Call → Bool
builds closed [] = true
builds closed (k ∷ ks) = fits closed k && builds (then_closed closed k) ks
