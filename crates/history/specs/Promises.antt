-- The whole promise on a list of calls, for any sheet whose lines keep their laws.
--   SafeFigures m i f        the shown effect is at least every low reading of the exact effect of the line m at its
--                            place i, and the shown resistance at most every high reading of the exact resistance
--   CloseFigures c m i f     the shown effect is at most a thousandth of the whole load and 1 N above every high reading,
--                            and every low reading of the resistance at most the shown one and the line's shortfall
--   HasReadings m i          there are readings of each kind, so that what is said of every reading says something
--   EachRead ms              so it is of every line at every place
--   AtShow lines P, AtRate lines P   what holds of a turn that shows figures, or that gives a verdict, as the case stands
--   Promise lines o ks gs    all that is promised of the answers gs to the calls ks on a case opened with o
--   Kept lines o ks r        the promise is kept; or the opening was refused, or memory was wanting for a lawful one
use Rattle.std.specs.Prelude.{◌≡◌, ℕ, ◌-◌, ◌<◌, true, false, List, Ok, Err, vec_items, Result, Vec, ◌≢◌}
use Rattle.std.specs.declared.alloc.Global.{Global}
use Rattle.std.specs.List.{AllByRecursion}
use Rattle.fractions.specs.Fractions.{Fraction, AtMost, whole, plus}
use Rattle.bolts.specs.Asked.{first_no}
use Rattle.bolts.specs.Loads.{total_load}
use Rattle.bolts.specs.declared.fault.Fault.{Fault}
use Rattle.bolts.specs.declared.fault.Fault.TheVariants as fault
use Rattle.forces.specs.Cases.{Case, Valid}
use Rattle.forces.specs.declared.opening.Opening.{Opening}
use Rattle.loadcase.specs.Opened.{opening_asked}
use Rattle.failure.specs.Meanings.{Meaning, excess, shortfall}
use Rattle.verdict.specs.Lines.{line_count, line}
use Rattle.verdict.specs.Governing.{Governs}
use Rattle.verdict.specs.Exact.{Judged}
use Rattle.verdict.specs.declared.answer.Shown.{Shown}
use Rattle.verdict.specs.declared.answer.Verdict.{Verdict}
use Rattle.history.specs.declared.call.Call.{Call}
use Rattle.history.specs.declared.call.Answer.{Answer}
use Rattle.history.specs.declared.call.Answer.TheVariants.{OutOfTurn}
use Rattle.history.specs.Histories.{Standing, start, history}
use Rattle.history.specs.Runs.{Turn, turns, showing, rating, EachTurn, Follows, builds}

pub record SafeFigures (m : Meaning) (i : ℕ) (f : Shown) : Type 0 where
  pub effect_never_below : (q : Fraction) → m.low_effect i q → AtMost q (whole f.effect)
  pub resistance_never_above : (q : Fraction) → m.high_resistance i q → AtMost (whole f.resistance) q

pub record CloseFigures (c : Case) (m : Meaning) (i : ℕ) (f : Shown) : Type 0 where
  pub effect_hardly_above : (q : Fraction) → m.high_effect i q → AtMost (whole f.effect) (plus q (excess (total_load m.direction c.bolts)))
  pub resistance_hardly_below : (q : Fraction) → m.low_resistance i q → AtMost q (plus (whole f.resistance) (shortfall m.allowance q))

pub record HasReadings (m : Meaning) (i : ℕ) : Type 0 where
  pub some_low_effect : (q : Fraction) × m.low_effect i q
  pub some_high_effect : (q : Fraction) × m.high_effect i q
  pub some_low_resistance : (q : Fraction) × m.low_resistance i q
  pub some_high_resistance : (q : Fraction) × m.high_resistance i q

abbrev pub EachRead : List Meaning → Type 0
EachRead ms = (l i : ℕ) → i < (line ms l).places.count → HasReadings (line ms l) i

-- lines and places are called from 1, and a meaning counts its places from 0
abbrev pub AtShow : (Case → List Meaning) → (Case → Meaning → ℕ → Shown → Type 0) → Standing → Turn → Type 0
AtShow lines P st t =
    (l p : ℕ) (f : Shown) → t ≡ showing l p f → P st.case (line (lines st.case) l) (p - 1) f

abbrev pub AtRate : (Case → List Meaning) → (Case → List Meaning → Verdict → Type 0) → Standing → Turn → Type 0
AtRate lines P st t = (v : Verdict) → t ≡ rating v → P st.case (lines st.case) v

pub record Promise (lines : Case → List Meaning) (o : Opening) (calls : List Call) (answers : List Answer) : Type 0 where
  -- the answers, by the history and by the law on runs, which leaves no others
  pub by_history : answers ≡ history lines (start o) calls
  pub by_law : Follows lines o calls answers
  pub only_these : (others : List Answer) → Follows lines o calls others → others ≡ answers
  pub always_valid : EachTurn o (turns calls answers) (λ st t. Valid st.case)
  pub never_out_of_turn : builds false calls ≡ true → AllByRecursion (λ g. g ≢ OutOfTurn) answers
  -- what is shown, against the exact effect and resistance with the bolts held at the turn
  pub shown_safe : EachTurn o (turns calls answers) (AtShow lines (λ c m i f. SafeFigures m i f))
  pub shown_close : EachTurn o (turns calls answers) (AtShow lines CloseFigures)
  -- what is judged, against the exact verifications with the bolts held at the turn
  pub verdict_exact : EachTurn o (turns calls answers) (AtRate lines (λ c ms v. Judged c ms v.accepted))
  pub largest_named : EachTurn o (turns calls answers) (AtRate lines (λ c ms v. Governs ms line_count v.governing))
  pub readings_exist : EachTurn o (turns calls answers) (λ st t. EachRead (lines st.case))

abbrev pub Kept : (Case → List Meaning) → Opening → List Call → Result (Vec Answer Global) Fault → Type 0
Kept lines o calls (Ok answers) = (first_no (opening_asked o) ≡ Ok tt) × Promise lines o calls (vec_items answers)
Kept lines o calls (Err (fault.Refused e)) = first_no (opening_asked o) ≡ Err e
Kept lines o calls (Err fault.Memory) = first_no (opening_asked o) ≡ Ok tt
