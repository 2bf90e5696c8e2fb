-- The verifications of a sheet against the exact figures, nothing rounded or capped.
--   Choice                a reading of each effect and each resistance, by line and place
--   Within e x r          the effect e is at most the share x of the resistance r
--   Verification          one of the thirteen lines at one place, or a combined check at a bolt, at an anchor, or of the
--                         concrete; no case has more than 16 bolts or anchors
--   Uses, UsesAll         at most the share x is used at a place of the kind, or at every place; a missing place uses none
--   Meets ms ch v         the choice meets the verification: shares exist within which the effects lie, and they add up
--   Mild, Harsh           low effects with high resistances; high effects with low resistances
--   worsened c ms ch      each effect raised by a thousandth of the whole load and 1 N, each resistance lowered by a
--                         thousandth and 2 N, to 0 at the least
--   Holds, Fails          every mild choice meets it; no harsh choice, worsened, does
--   Readable ms           there is a mild choice and a harsh one, so that neither judgement is idle
--   Judged c ms accepted  accepted: every verification holds; rejected: some verification fails
use Rattle.std.specs.Prelude.{◌≡◌, ℕ, ◌<◌, ◌≤◌, Bool, true, false, List}
use Rattle.std.proofs.Common.{lit<}
use Rattle.fractions.specs.Fractions.{Fraction, AtMost, whole, over, plus, times, less}
use Rattle.bolts.specs.Loads.{total_load}
use Rattle.forces.specs.Cases.{Case}
use Rattle.failure.specs.Meanings.{Meaning, Lawful, excess}
use Rattle.failure.specs.declared.places.PlaceKind.{PlaceKind}
use Rattle.failure.specs.declared.places.PlaceKind.TheVariants.{Bolts, Anchors}
use Rattle.verdict.specs.Lines.{line_count, most_places, nth, line}

pub record Choice : Type 0 where
  pub effect : ℕ → ℕ → Fraction
  pub resistance : ℕ → ℕ → Fraction

abbrev pub Within : Fraction → Fraction → Fraction → Type 0
Within e x r = AtMost e (times x r)

pub data Verification : Type 0 where
  single : (l i : ℕ) → l ≤ line_count → Verification
  bolt_steel : (i : ℕ) → i < most_places → Verification
  channel : (i : ℕ) → i < most_places → Verification
  anchor : (i : ℕ) → i < most_places → Verification
  concrete : Verification

-- the line l, from 1, at its place i, from 0
abbrev pub Uses : List Meaning → Choice → PlaceKind → ℕ → ℕ → Fraction → Type 0
Uses ms ch kind l i x =
    (line ms l).places.kind ≡ kind → i < (line ms l).places.count → Within (ch.effect l i) x (ch.resistance l i)

abbrev pub UsesAll : List Meaning → Choice → ℕ → Fraction → Type 0
UsesAll ms ch l x = (i : ℕ) → i < (line ms l).places.count → Within (ch.effect l i) x (ch.resistance l i)

-- x + y is at most n tenths
abbrev pub SumAtMost : ℕ → Fraction → Fraction → Type 0
SumAtMost n x y = AtMost (plus x y) (over n 10 (lit< tt))

-- x² + y² is at most 1
abbrev pub SquaresAtMostOne : Fraction → Fraction → Type 0
SquaresAtMostOne x y = AtMost (plus (times x x) (times y y)) (whole 1)

abbrev pub Meets : List Meaning → Choice → Verification → Type 0
Meets ms ch (single l i listed) = i < (line ms l).places.count → Within (ch.effect l i) (whole 1) (ch.resistance l i)
Meets ms ch (bolt_steel i inside) =
    (x : Fraction) × (y : Fraction) × Uses ms ch Bolts 4 i x × Uses ms ch Bolts 8 i y × SquaresAtMostOne x y
Meets ms ch (channel i inside) =
    (x : Fraction) × (y : Fraction) × Uses ms ch Bolts 3 i x × Uses ms ch Bolts 5 i x × Uses ms ch Bolts 9 i y × SumAtMost 10 x y
Meets ms ch (anchor i inside) =
    (x : Fraction)
    × (y : Fraction)
    × Uses ms ch Anchors 1 i x
    × Uses ms ch Anchors 2 i x
    × Uses ms ch Anchors 10 i y
    × Uses ms ch Anchors 11 i y
    × SumAtMost 10 x y
Meets ms ch concrete =
    (x : Fraction)
    × (y : Fraction)
    × UsesAll ms ch 6 x
    × UsesAll ms ch 7 x
    × UsesAll ms ch 12 y
    × UsesAll ms ch 13 y
    × SumAtMost 12 x y

abbrev pub Mild : List Meaning → Choice → Type 0
Mild ms ch =
    (l i : ℕ) → i < (line ms l).places.count → (line ms l).low_effect i (ch.effect l i) × (line ms l).high_resistance i (ch.resistance l i)

abbrev pub Harsh : List Meaning → Choice → Type 0
Harsh ms ch =
    (l i : ℕ) → i < (line ms l).places.count → (line ms l).high_effect i (ch.effect l i) × (line ms l).low_resistance i (ch.resistance l i)

abbrev pub raised : ℕ → Fraction → Fraction
raised w q = plus q (excess w)

abbrev pub lowered : Fraction → Fraction
lowered p = less (times (over 999 1000 (lit< tt)) p) 2000

abbrev pub worsened : Case → List Meaning → Choice → Choice
worsened c ms ch = record {
  effect = λ l i. raised (total_load (line ms l).direction c.bolts) (ch.effect l i);
  resistance = λ l i. lowered (ch.resistance l i);
}

abbrev pub Holds : List Meaning → Verification → Type 0
Holds ms v = (ch : Choice) → Mild ms ch → Meets ms ch v

abbrev pub Fails : Case → List Meaning → Verification → Type 0
Fails c ms v = (ch : Choice) → Harsh ms ch → Meets ms (worsened c ms ch) v → ⊥

pub record Readable (ms : List Meaning) : Type 0 where
  pub some_mild : (ch : Choice) × Mild ms ch
  pub some_harsh : (ch : Choice) × Harsh ms ch

pub record Judged (c : Case) (ms : List Meaning) (accepted : Bool) : Type 0 where
  pub accepted_holds : accepted ≡ true → (v : Verification) → Holds ms v
  pub rejected_fails : accepted ≡ false → (v : Verification) × Fails c ms v

-- every line keeps its laws; every allowance is at most 600
abbrev pub AllLawful : Case → List Meaning → Type 0
AllLawful c ms = (k : ℕ) → Lawful c (nth ms k)

abbrev pub AllAccurate : List Meaning → Type 0
AllAccurate ms = (k : ℕ) → (nth ms k).allowance ≤ 600
