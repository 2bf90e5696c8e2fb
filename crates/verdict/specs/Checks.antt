-- The combined checks of tension and shear, over the utilisations of the lines, at every place that a case may have.
--   bolt_steel ms i       lines 4 and 8 at a bolt, the sum of the squares
--   channel ms i          the greater of lines 3 and 5 at a bolt, and line 9
--   anchor ms i           the greater of lines 1 and 2 at an anchor, and the greater of lines 10 and 11
--   concrete ms           the largest of lines 6 and 7, and the largest of lines 12 and 13
--   check_1 .. check_4    whether each holds
--   sound check ms        whether the check of that name holds
--   failed_check ms       the first that fails, or none
--   line_within m         no utilisation of the line m passes 10,000
--   none_over ms          none of the thirteen lines passes it
use Rattle.std.specs.Prelude.{ℕ, zero, suc, ◌+◌, ◌*◌, max, Bool, true, cond, ◌&&◌, leb, List, Some, None, Option, nat_le}
use Rattle.failure.specs.Meanings.{Meaning}
use Rattle.failure.specs.declared.places.PlaceKind.TheVariants.{Bolts, Anchors}
use Rattle.verdict.specs.declared.answer.CombinedCheck.{CombinedCheck}
use Rattle.verdict.specs.declared.answer.CombinedCheck.TheVariants.{BoltSteel, Channel, Anchor, Concrete}
use Rattle.verdict.specs.Lines.{line_count, most_places, nth, line}
use Rattle.verdict.specs.Utilisations.{utilisation, used, largest}

-- a test at each number below n
abbrev pub all_below : ℕ → (ℕ → Bool) → Bool
all_below zero t = true
all_below (suc n) t = all_below n t && t n

abbrev pub square : ℕ → ℕ
square n = n * n

abbrev pub bolt_steel : List Meaning → ℕ → ℕ
bolt_steel ms i = square (used Bolts (line ms 4) i) + square (used Bolts (line ms 8) i)

abbrev pub channel : List Meaning → ℕ → ℕ
channel ms i = max (used Bolts (line ms 3) i) (used Bolts (line ms 5) i) + used Bolts (line ms 9) i

abbrev pub anchor : List Meaning → ℕ → ℕ
anchor ms i =
    max (used Anchors (line ms 1) i) (used Anchors (line ms 2) i)
    + max (used Anchors (line ms 10) i) (used Anchors (line ms 11) i)

abbrev pub concrete : List Meaning → ℕ
concrete ms = max (largest (line ms 6)) (largest (line ms 7)) + max (largest (line ms 12)) (largest (line ms 13))

unfoldable pub check_1 : List Meaning → Bool
check_1 ms = all_below most_places (λ i. leb (bolt_steel ms i) 100000000)

unfoldable pub check_2 : List Meaning → Bool
check_2 ms = all_below most_places (λ i. leb (channel ms i) 10000)

unfoldable pub check_3 : List Meaning → Bool
check_3 ms = all_below most_places (λ i. leb (anchor ms i) 10000)

abbrev pub check_4 : List Meaning → Bool
check_4 ms = nat_le (concrete ms) 12000

abbrev pub sound : CombinedCheck → List Meaning → Bool
sound BoltSteel ms = check_1 ms
sound Channel ms = check_2 ms
sound Anchor ms = check_3 ms
sound Concrete ms = check_4 ms

abbrev pub failed_check : List Meaning → Option CombinedCheck
failed_check ms =
    cond (check_1 ms) (cond (check_2 ms) (cond (check_3 ms) (cond (check_4 ms) None (Some Concrete)) (Some Anchor)) (Some Channel)) (Some BoltSteel)

abbrev pub line_within : Meaning → Bool
line_within m = all_below m.places.count (λ i. leb (utilisation m i) 10000)

unfoldable pub none_over : List Meaning → Bool
none_over ms = all_below line_count (λ k. line_within (nth ms k))
