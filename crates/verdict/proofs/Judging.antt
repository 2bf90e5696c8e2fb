-- From the utilisations of the lines to the exact verifications.
use Rattle.std.proofs.Common.{◌≡◌, ℕ, ◌+◌, ◌-◌, ◌*◌, ◌<◌, ◌≤◌, max, Bool, true, false, cond, leb, List, Some, None, Option, is_none, refl, inl, inr, mul-le-mul_right, mul-le-mul, mul-pos, le_of_mul-le-mul_right, arith}
use Rattle.std.proofs.lemmas.Bool.{cases_lt, leb-true, leb-false, and_parts, and_cases}
use Rattle.fractions.specs.Fractions.{Fraction, whole}
use Rattle.forces.specs.Cases.{Case}
use Rattle.failure.specs.Meanings.{Meaning}
use Rattle.failure.specs.declared.places.PlaceKind.{PlaceKind}
use Rattle.failure.specs.declared.places.PlaceKind.TheVariants.{Bolts, Anchors}
use Rattle.verdict.specs.Lines.{line_count, most_places, nth, line}
use Rattle.verdict.specs.Utilisations.{utilisation, used, largest}
use Rattle.verdict.specs.Checks as checks
use Rattle.verdict.specs.Checks.{all_below, check_1, check_2, check_3, check_4, failed_check, none_over}
use Rattle.verdict.specs.Answers.{all_accurate, verdict}
use Rattle.verdict.specs.Exact.{Choice, Within, SumAtMost, SquaresAtMostOne, Verification, single, bolt_steel, channel, anchor, concrete, Uses, UsesAll, Mild, Harsh, worsened, Holds, Fails, Judged, AllLawful, AllAccurate}
use Rattle.verdict.specs.declared.answer.CombinedCheck.{CombinedCheck}
use Rattle.verdict.specs.declared.answer.CombinedCheck.TheVariants.{BoltSteel, Channel, Anchor, Concrete}
use Rattle.verdict.proofs.Below.{all_true, all_false}
use Rattle.verdict.proofs.Places.{used_here, used_either, largest_most, largest_either}
use Rattle.verdict.proofs.Shares.{within, share, slack, Bent}

-- two utilisations that hardly pass their shares hardly pass the sum of the shares
add_up : (n v u : ℕ) (x y : Fraction) → Bent v x → Bent u y → SumAtMost n x y → 10004 * (v + u) ≤ n * 10000000 + 20008
add_up n v u x y a b sum =
    let p = mul-le-mul_right y.below a in
    let q = mul-le-mul_right x.below b in
    let k : (10004 * (v + u)) * (x.below * y.below) ≤ (n * 10000000 + 20008) * (x.below * y.below) = omega arith in
    le_of_mul-le-mul_right k (mul-pos x.proper y.proper)

root_le : (a b : ℕ) → a * a ≤ b * b → a ≤ b
root_le a b h = elim (cases_lt b a) [ inl past ↦ absurd (omega (arith, mul-le-mul past past)) | inr fine ↦ fine ]

-- the same of squares, over one denominator n
square_up : (v u s t n : ℕ) → 0 < n → 10004 * (v * n) ≤ 100000000 * s + 10004 * n → 10004 * (u * n) ≤ 100000000 * t + 10004 * n → s * s + t * t ≤ n * n → v * v + u * u ≤ 100000000
square_up v u s t n pos a b sum =
    let s-low : s ≤ n = root_le s n (omega arith) in
    let t-low : t ≤ n = root_le t n (omega arith) in
    let p = mul-le-mul a a in
    let q = mul-le-mul b b in
    let f = mul-le-mul_right n s-low in
    let g = mul-le-mul_right n t-low in
    let k : (100080016 * (v * v + u * u)) * (n * n) ≤ 10004001800160032 * (n * n) = omega arith in
    let m = le_of_mul-le-mul_right k (mul-pos pos pos) in
    omega arith

square_add : (v u : ℕ) (x y : Fraction) → Bent v x → Bent u y → SquaresAtMostOne x y → v * v + u * u ≤ 100000000
square_add v u x y a b sum =
    let n = x.below * y.below in
    let pos = mul-pos x.proper y.proper in
    let k : ((x.above * y.below) * (x.above * y.below) + (y.above * x.below) * (y.above * x.below)) ≤ n * n = omega arith in
    square_up v u (x.above * y.below) (y.above * x.below) n pos
    (omega (arith, mul-le-mul_right y.below a)) (omega (arith, mul-le-mul_right x.below b)) k

-- the check of the first no
abbrev first : (a b d e : Bool) → Option CombinedCheck
first a b d e = cond a (cond b (cond d (cond e None (Some Concrete)) (Some Anchor)) (Some Channel)) (Some BoltSteel)

passed : (a b d e : Bool) → is_none (first a b d e) ≡ true → (a ≡ true) × (b ≡ true) × (d ≡ true) × (e ≡ true)
passed false b d e h = cc
passed true false d e h = cc
passed true true false e h = cc
passed true true true false h = cc
passed true true true true h = (refl, refl, refl, refl)

module _ (c : Case) (ms : List Meaning) (law : AllLawful c ms) where
  -- the shares that a choice of low effects and high resistances uses
  module _ (ch : Choice) (low : Mild ms ch) (l i n : ℕ) (below-cap : n < 999999) where
    bears : i < (line ms l).places.count → utilisation (line ms l) i ≤ n → Within (ch.effect l i) (share n) (ch.resistance l i)
    bears h under =
        let at = law (l - 1) i h in
        let q = ch.effect l i in
        let p = ch.resistance l i in
        within _ _ n under below-cap q p (at.effect_safe q (low l i h).0) (at.resistance_safe p (low l i h).1)

    uses : (kind : PlaceKind) → used kind (line ms l) i ≤ n → Uses ms ch kind l i (share n)
    uses kind under is h = bears h (omega (arith, used_here kind (line ms l) i is h))

  uses_all : (ch : Choice) → Mild ms ch → (l n : ℕ) → n < 999999 → largest (line ms l) ≤ n → UsesAll ms ch l (share n)
  uses_all ch low l n below-cap under i h = bears ch low l i n below-cap h (omega (arith, largest_most (line ms l) i h))

  single_holds : none_over ms ≡ true → (l i : ℕ) (listed : l ≤ line_count) → Holds ms (single l i listed)
  unfolding none_over
  single_holds none l i listed ch low h =
      let each = all_true line_count (λ k. all_below (nth ms k).places.count (λ j. leb (utilisation (nth ms k) j) 10000)) none (l - 1) (omega arith) in
      let under : utilisation (line ms l) i ≤ 10000 = leb-true _ _ (all_true (line ms l).places.count (λ j. leb (utilisation (line ms l) j) 10000) each i h) in
      omega (arith, bears ch low l i 10000 (omega arith) h under)

  bolt_steel_holds : check_1 ms ≡ true → (i : ℕ) (inside : i < most_places) → Holds ms (bolt_steel i inside)
  unfolding check_1
  bolt_steel_holds holds i inside ch low =
      let all = leb-true _ _ (all_true most_places (λ j. leb (checks.bolt_steel ms j) 100000000) holds i inside) in
      let x = used Bolts (line ms 4) i in
      let y = used Bolts (line ms 8) i in
      let x-low : x ≤ 10000 = root_le x 10000 (omega arith) in
      let y-low : y ≤ 10000 = root_le y 10000 (omega arith) in
      (share x, share y, uses ch low 4 i x (omega arith) Bolts (omega arith), uses ch low 8 i y (omega arith) Bolts (omega arith), omega arith)

  channel_holds : check_2 ms ≡ true → (i : ℕ) (inside : i < most_places) → Holds ms (channel i inside)
  unfolding check_2
  channel_holds holds i inside ch low =
      let all = leb-true _ _ (all_true most_places (λ j. leb (checks.channel ms j) 10000) holds i inside) in
      let x = max (used Bolts (line ms 3) i) (used Bolts (line ms 5) i) in
      let y = used Bolts (line ms 9) i in (
        share x,
        share y,
        uses ch low 3 i x (omega arith) Bolts (omega arith),
        uses ch low 5 i x (omega arith) Bolts (omega arith),
        uses ch low 9 i y (omega arith) Bolts (omega arith),
        omega arith,
      )

  anchor_holds : check_3 ms ≡ true → (i : ℕ) (inside : i < most_places) → Holds ms (anchor i inside)
  unfolding check_3
  anchor_holds holds i inside ch low =
      let all = leb-true _ _ (all_true most_places (λ j. leb (checks.anchor ms j) 10000) holds i inside) in
      let x = max (used Anchors (line ms 1) i) (used Anchors (line ms 2) i) in
      let y = max (used Anchors (line ms 10) i) (used Anchors (line ms 11) i) in (
        share x,
        share y,
        uses ch low 1 i x (omega arith) Anchors (omega arith),
        uses ch low 2 i x (omega arith) Anchors (omega arith),
        uses ch low 10 i y (omega arith) Anchors (omega arith),
        uses ch low 11 i y (omega arith) Anchors (omega arith),
        omega arith,
      )

  concrete_holds : check_4 ms ≡ true → Holds ms concrete
  concrete_holds holds ch low =
      let all = leb-true _ _ holds in
      let x = max (largest (line ms 6)) (largest (line ms 7)) in
      let y = max (largest (line ms 12)) (largest (line ms 13)) in (
        share x,
        share y,
        uses_all ch low 6 x (omega arith) (omega arith),
        uses_all ch low 7 x (omega arith) (omega arith),
        uses_all ch low 12 y (omega arith) (omega arith),
        uses_all ch low 13 y (omega arith) (omega arith),
        omega arith,
      )

  all_hold : none_over ms ≡ true → check_1 ms ≡ true → check_2 ms ≡ true → check_3 ms ≡ true → check_4 ms ≡ true → (v : Verification) → Holds ms v
  all_hold none p q r s (single l i listed) = single_holds none l i listed
  all_hold none p q r s (bolt_steel i inside) = bolt_steel_holds p i inside
  all_hold none p q r s (channel i inside) = channel_holds q i inside
  all_hold none p q r s (anchor i inside) = anchor_holds r i inside
  all_hold none p q r s concrete = concrete_holds s

  module _ (accurate : (k : ℕ) → k < line_count → (nth ms k).allowance ≤ 600) where
    -- the utilisations against a choice of high effects and low resistances, worsened
    module _ (ch : Choice) (high : Harsh ms ch) (l i : ℕ) (listed : l ≤ line_count) (x : Fraction) where
      bent : i < (line ms l).places.count → Within ((worsened c ms ch).effect l i) x ((worsened c ms ch).resistance l i) → Bent (utilisation (line ms l) i) x
      bent h w =
          let at = law (l - 1) i h in
          let few = accurate (l - 1) (omega arith) in
          let under : (line ms l).allowance < 2000 = omega arith in
          let q = ch.effect l i in
          let p = ch.resistance l i in
          slack _ _ _ _ few q p (at.effect_close under q (high l i h).0) (at.resistance_close under p (high l i h).1) x w

      bent_used : (kind : PlaceKind) → Uses ms (worsened c ms ch) kind l i x → Bent (used kind (line ms l) i) x
      bent_used kind u = used_either kind (line ms l) i (λ v. Bent v x) (λ is h. bent h (u is h)) (omega arith)

    bent_largest : (ch : Choice) → Harsh ms ch → (l : ℕ) → l ≤ line_count → (x : Fraction) → UsesAll ms (worsened c ms ch) l x → Bent (largest (line ms l)) x
    bent_largest ch high l listed x u =
        largest_either (line ms l) (λ v. Bent v x) (λ i h. bent ch high l i listed x h (u i h)) (omega arith)

    single_fails : (k i : ℕ) → k < line_count → i < (nth ms k).places.count → 10000 < utilisation (nth ms k) i → (v : Verification) × Fails c ms v
    single_fails k i listed h past =
        let e : k ≡ (k + 1) - 1 = omega arith in
        at (k + 1) (omega arith) (rw e at h) (rw e at past)
      where
        at : (l : ℕ) → l ≤ line_count → i < (line ms l).places.count → 10000 < utilisation (line ms l) i → (v : Verification) × Fails c ms v
        at l listed h past = (single l i listed, λ ch high meets. omega (arith, bent ch high l i listed (whole 1) h (meets h)))

    over_fails : none_over ms ≡ false → (v : Verification) × Fails c ms v
    unfolding none_over
    over_fails some =
        let f = all_false line_count (λ k. all_below (nth ms k).places.count (λ j. leb (utilisation (nth ms k) j) 10000)) some in
        let k = f.0 in
        let g = all_false (nth ms k).places.count (λ j. leb (utilisation (nth ms k) j) 10000) f.2 in
        single_fails k g.0 f.1 g.1 (leb-false _ _ g.2)

    bolt_steel_fails : check_1 ms ≡ false → (v : Verification) × Fails c ms v
    unfolding check_1
    bolt_steel_fails fails =
        let f = all_false most_places (λ j. leb (checks.bolt_steel ms j) 100000000) fails in
        let i = f.0 in
        let past = leb-false _ _ f.2 in (
          bolt_steel i f.1,
          λ ch high meets.
              let x = meets.0 in
              let y = meets.1 in
              let a = bent_used ch high 4 i (omega arith) x Bolts meets.2 in
              let b = bent_used ch high 8 i (omega arith) y Bolts meets.3 in
              let z = square_add _ _ x y a b meets.4 in
              omega arith,
        )

    channel_fails : check_2 ms ≡ false → (v : Verification) × Fails c ms v
    unfolding check_2
    channel_fails fails =
        let f = all_false most_places (λ j. leb (checks.channel ms j) 10000) fails in
        let i = f.0 in
        let past = leb-false _ _ f.2 in (
          channel i f.1,
          λ ch high meets.
              let x = meets.0 in
              let y = meets.1 in
              let a = bent_used ch high 3 i (omega arith) x Bolts meets.2 in
              let b = bent_used ch high 5 i (omega arith) x Bolts meets.3 in
              let d = bent_used ch high 9 i (omega arith) y Bolts meets.4 in
              omega (arith, add_up 10 _ _ x y a d meets.5, add_up 10 _ _ x y b d meets.5),
        )

    anchor_fails : check_3 ms ≡ false → (v : Verification) × Fails c ms v
    unfolding check_3
    anchor_fails fails =
        let f = all_false most_places (λ j. leb (checks.anchor ms j) 10000) fails in
        let i = f.0 in
        let past = leb-false _ _ f.2 in (
          anchor i f.1,
          λ ch high meets.
              let x = meets.0 in
              let y = meets.1 in
              let a = bent_used ch high 1 i (omega arith) x Anchors meets.2 in
              let b = bent_used ch high 2 i (omega arith) x Anchors meets.3 in
              let d = bent_used ch high 10 i (omega arith) y Anchors meets.4 in
              let e = bent_used ch high 11 i (omega arith) y Anchors meets.5 in
              omega (arith, add_up 10 _ _ x y a d meets.6, add_up 10 _ _ x y a e meets.6, add_up 10 _ _ x y b d meets.6, add_up 10 _ _ x y b e meets.6),
        )

    concrete_fails : check_4 ms ≡ false → (v : Verification) × Fails c ms v
    concrete_fails fails =
        let past = leb-false _ _ fails in (
          concrete,
          λ ch high meets.
              let x = meets.0 in
              let y = meets.1 in
              let a = bent_largest ch high 6 (omega arith) x meets.2 in
              let b = bent_largest ch high 7 (omega arith) x meets.3 in
              let d = bent_largest ch high 12 (omega arith) y meets.4 in
              let e = bent_largest ch high 13 (omega arith) y meets.5 in
              omega (arith, add_up 12 _ _ x y a d meets.6, add_up 12 _ _ x y a e meets.6, add_up 12 _ _ x y b d meets.6, add_up 12 _ _ x y b e meets.6),
        )

    -- the first check that fails, if one does
    failed_fails : (a b d e : Bool) → check_1 ms ≡ a → check_2 ms ≡ b → check_3 ms ≡ d → check_4 ms ≡ e → is_none (first a b d e) ≡ false → (v : Verification) × Fails c ms v
    failed_fails false b d e p q r s is = bolt_steel_fails p
    failed_fails true false d e p q r s is = channel_fails q
    failed_fails true true false e p q r s is = anchor_fails r
    failed_fails true true true false p q r s is = concrete_fails s
    failed_fails true true true true p q r s is = cc

    -- the verdict stands against the exact figures
    pub judges_listed : Judged c ms (verdict ms).accepted
    judges_listed =
        record {
          accepted_holds = λ accepted.
              let both = and_parts (none_over ms) (is_none (failed_check ms)) accepted in
              let all = passed (check_1 ms) (check_2 ms) (check_3 ms) (check_4 ms) both.1 in
              all_hold both.0 all.0 all.1 all.2 all.3;
          rejected_fails = λ rejected.
              elim (and_cases (none_over ms) (is_none (failed_check ms)) rejected) [
                | inl past ↦ over_fails past
                | inr failed ↦ failed_fails (check_1 ms) (check_2 ms) (check_3 ms) (check_4 ms) refl refl refl refl failed
              ];
        }

pub judges : (c : Case) (ms : List Meaning) → AllLawful c ms → AllAccurate ms → Judged c ms (verdict ms).accepted
judges c ms law accurate = judges_listed c ms law (λ k listed. accurate k)

-- every allowance is at most 600 where the test says so
pub listed_accurate : (ms : List Meaning) → all_accurate ms ≡ true → (k : ℕ) → k < line_count → (nth ms k).allowance ≤ 600
unfolding all_accurate
listed_accurate ms e k listed = leb-true _ _ (all_true line_count (λ j. leb (nth ms j).allowance 600) e k listed)

-- so a rating that is not refused stands
pub judges_rated : (c : Case) (ms : List Meaning) → AllLawful c ms → all_accurate ms ≡ true → Judged c ms (verdict ms).accepted
judges_rated c ms law e = judges_listed c ms law (listed_accurate ms e)
