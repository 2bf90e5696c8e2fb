-- The answers of the history keep the whole promise.
use Rattle.std.proofs.Common.{◌≡◌, ℕ, ◌-◌, ◌<◌, Bool, true, false, cond, leb, List, [], ◌∷◌, Ok, sym, refl, ap, ◌∙◌, subst, arith}
use Rattle.std.proofs.lemmas.Bool.{and_parts, leb-true}
use Rattle.fractions.specs.Fractions.{AtMost, whole, plus}
use Rattle.bolts.specs.Asked.{first_no}
use Rattle.bolts.specs.Loads.{total_load}
use Rattle.bolts.specs.declared.refusal.Refusal.{Refusal}
use Rattle.bolts.specs.declared.refusal.Refusal.TheVariants.{NoPlace, Allowance}
use Rattle.forces.specs.Cases.{Case, Valid}
use Rattle.forces.specs.declared.opening.Opening.{Opening}
use Rattle.loadcase.specs.Opened.{opening_asked}
use Rattle.failure.specs.Meanings.{Meaning, LawfulAt, excess, shortfall}
use Rattle.verdict.specs.Lines.{line_count, line}
use Rattle.verdict.specs.Answers.{has, accurate, all_accurate, shown, verdict, granted}
use Rattle.verdict.specs.Exact.{Judged, AllLawful}
use Rattle.verdict.specs.Governing.{Governs}
use Rattle.verdict.specs.declared.answer.Shown as figures
use Rattle.verdict.specs.declared.answer.Verdict.{Verdict}
use Rattle.verdict.proofs.Governed.{governed}
use Rattle.verdict.proofs.Judging.{judges_rated}
use Rattle.history.specs.declared.call.Call.{Call}
use Rattle.history.specs.declared.call.Call.TheVariants.{Show, Rate}
use Rattle.history.specs.declared.call.Answer.{Answer}
use Rattle.history.specs.declared.call.Answer.TheVariants.{Shown, Rated, OutOfTurn}
use Rattle.history.specs.Histories.{Standing, start, or_refused, answer_of, history}
use Rattle.history.specs.Runs.{Turn, turns, rating, EachTurn, Follows}
use Rattle.history.specs.Promises.{SafeFigures, CloseFigures, HasReadings, AtShow, AtRate, Promise}
use Rattle.history.proofs.Law.{Told, each_told, length-history, never_out}
use Rattle.history.proofs.Single.{single}

each_by : {P Q : Standing → Turn → Type 0} (o : Opening) (h : List Turn) → ((st : Standing) (t : Turn) → P st t → Q st t) → EachTurn o h P → EachTurn o h Q
each_by o h f w before t rest e = let r = w before t rest e in (r.0, r.1, f r.0 t r.2)

-- figures are shown only where both questions were answered yes
shown_from : (closed p q : Bool) (a b : Refusal) (f g : figures.Shown) → Shown f ≡ cond closed (or_refused Shown (granted (first_no ((p, a) ∷ (q, b) ∷ [])) g)) OutOfTurn → (p ≡ true) × (q ≡ true) × (f ≡ g)
shown_from false p q a b f g e = cc
shown_from true false q a b f g e = cc
shown_from true true false a b f g e = cc
shown_from true true true a b f g e = (refl, refl, cc)

rated_from : (closed p : Bool) (a : Refusal) (v w : Verdict) → Rated v ≡ cond closed (or_refused Rated (granted (first_no ((p, a) ∷ [])) w)) OutOfTurn → (p ≡ true) × (v ≡ w)
rated_from false p a v w e = cc
rated_from true false a v w e = cc
rated_from true true a v w e = (refl, cc)

inside : (ms : List Meaning) (l p : ℕ) → has ms l p ≡ true → p - 1 < (line ms l).places.count
inside ms l p h =
    let x = and_parts (leb 1 l) _ h in
    let y = and_parts (leb l line_count) _ x.1 in
    let z = and_parts (leb 1 p) (leb p (line ms l).places.count) y.1 in
    omega (arith, leb-true _ _ z.0, leb-true _ _ z.1)

-- what is known of the figures f that are shown of the line m at its place i
record Seen (c : Case) (m : Meaning) (i : ℕ) (f : figures.Shown) : Type 0 where
  pub keeps : LawfulAt (total_load m.direction c.bolts) m i
  pub allowed : m.allowance < 2000
  pub effect_is : m.effect i ≡ f.effect
  pub resistance_is : m.resistance i ≡ f.resistance

safe : (c : Case) (m : Meaning) (i : ℕ) (f : figures.Shown) → Seen c m i f → SafeFigures m i f
safe c m i f s = record {
  effect_never_below = λ q r. subst (λ e. AtMost q (whole e)) s.effect_is (s.keeps.effect_safe q r);
  resistance_never_above = λ q r. subst (λ e. AtMost (whole e) q) s.resistance_is (s.keeps.resistance_safe q r);
}

close : (c : Case) (m : Meaning) (i : ℕ) (f : figures.Shown) → Seen c m i f → CloseFigures c m i f
close c m i f s = record {
  effect_hardly_above = λ q r. subst (λ e. AtMost (whole e) (plus q (excess (total_load m.direction c.bolts)))) s.effect_is (s.keeps.effect_close s.allowed q r);
  resistance_hardly_below = λ q r. subst (λ e. AtMost q (plus (whole e) (shortfall m.allowance q))) s.resistance_is (s.keeps.resistance_close s.allowed q r);
}

read : (w : ℕ) (m : Meaning) (i : ℕ) → LawfulAt w m i → HasReadings m i
read w m i s = record {
  some_low_effect = s.some_low_effect;
  some_high_effect = s.some_high_effect;
  some_low_resistance = s.some_low_resistance;
  some_high_resistance = s.some_high_resistance;
}

module _ (lines : Case → List Meaning) (lawful : (c : Case) → Valid c → AllLawful c (lines c)) where
  seen : (st : Standing) (t : Turn) → Told lines st t → AtShow lines Seen st t
  seen st t w l p f e =
      let ms = lines st.case in
      let told : Shown f ≡ answer_of lines st (Show l p) = subst (λ (u : Turn). u.answer ≡ answer_of lines st u.call) e w.1 in
      let s = shown_from st.closed (has ms l p) (accurate (line ms l)) NoPlace Allowance f (shown ms l p) told in
      record {
        keeps = lawful st.case w.0 (l - 1) (p - 1) (inside ms l p s.0);
        allowed = omega (arith, leb-true _ _ s.1);
        effect_is = ap (λ (x : figures.Shown). x.effect) (sym s.2);
        resistance_is = ap (λ (x : figures.Shown). x.resistance) (sym s.2);
      }

  -- the verdict given is the one that the lines come to
  rated : (st : Standing) (t : Turn) → Told lines st t → (v : Verdict) → t ≡ rating v → (all_accurate (lines st.case) ≡ true) × (v ≡ verdict (lines st.case))
  rated st t w v e =
      let ms = lines st.case in
      let told : Rated v ≡ answer_of lines st Rate = subst (λ (u : Turn). u.answer ≡ answer_of lines st u.call) e w.1 in
      rated_from st.closed (all_accurate ms) Allowance v (verdict ms) told

  judged : (st : Standing) (t : Turn) → Told lines st t → AtRate lines (λ c ms v. Judged c ms v.accepted) st t
  judged st t w v e =
      let ms = lines st.case in
      let r = rated st t w v e in
      subst (λ (x : Verdict). Judged st.case ms x.accepted) (sym r.1) (judges_rated st.case ms (lawful st.case w.0) r.0)

  named : (st : Standing) (t : Turn) → Told lines st t → AtRate lines (λ c ms v. Governs ms line_count v.governing) st t
  named st t w v e =
      let ms = lines st.case in
      subst (λ (x : Verdict). Governs ms line_count x.governing) (sym (rated st t w v e).1) (governed ms)

  pub kept : (o : Opening) (calls : List Call) (st : Standing) (answers : List Answer) → first_no (opening_asked o) ≡ Ok tt → st ≡ start o → answers ≡ history lines st calls → Promise lines o calls answers
  kept o calls st answers n began given =
      let e : answers ≡ history lines (start o) calls = given ∙ ap (λ s. history lines s calls) began in
      let h : List Turn = turns calls (history lines (start o) calls) in
      let w = each_told lines o calls n in
      let follows : Follows lines o calls (history lines (start o) calls) = record { as_many = length-history lines (start o) calls; answered = each_by o h (λ st t x. x.1) w } in
      subst (Promise lines o calls) (sym e) (record {
        by_history = refl;
        by_law = follows;
        only_these = λ others f. single lines o calls others (history lines (start o) calls) f follows;
        always_valid = each_by o h (λ st t x. x.0) w;
        never_out_of_turn = never_out lines o calls;
        shown_safe = each_by o h (λ st t x l p f q. safe st.case _ _ f (seen st t x l p f q)) w;
        shown_close = each_by o h (λ st t x l p f q. close st.case _ _ f (seen st t x l p f q)) w;
        verdict_exact = each_by o h judged w;
        largest_named = each_by o h named w;
        readings_exist = each_by o h (λ st t x l i p. read _ _ i (lawful st.case x.0 (l - 1) i p)) w;
      })
