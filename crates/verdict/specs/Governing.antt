-- The governing place: the largest utilisation, the lowest line and place that have it.
--   Before j i l p        the place i of line j, both from 0, comes before the line l and place p, both from 1
--   Governs ms n g        the law: of the first n lines, no utilisation is larger than g's, none that comes before is as
--                         large, and g's line and place have it; none exactly where these lines have no place
--   governing ms          the one that a walk over lines and places finds, a later one only where it is larger
use Rattle.std.specs.Prelude.{◌≡◌, ℕ, zero, suc, ◌+◌, ◌-◌, ◌<◌, ◌≤◌, cond, ◌⊎◌, List, Some, None, Option, nat_lt}
use Rattle.failure.specs.Meanings.{Meaning}
use Rattle.verdict.specs.Lines.{line_count, nth, line}
use Rattle.verdict.specs.Utilisations.{utilisation}
use Rattle.verdict.specs.declared.answer.Governing.{Governing}

abbrev pub Before : ℕ → ℕ → ℕ → ℕ → Type 0
Before j i l p = (j + 1 < l) ⊎ ((j + 1 ≡ l) × (i + 1 < p))

pub record Found (ms : List Meaning) (n : ℕ) (g : Governing) : Type 0 where
  pub line_low : 1 ≤ g.line
  pub line_high : g.line ≤ n
  pub place_low : 1 ≤ g.place
  pub place_high : g.place ≤ (line ms g.line).places.count
  pub has_it : utilisation (line ms g.line) (g.place - 1) ≡ g.utilisation
  pub none_larger : (j i : ℕ) → j < n → i < (nth ms j).places.count → utilisation (nth ms j) i ≤ g.utilisation
  pub earlier_less : (j i : ℕ) → Before j i g.line g.place → i < (nth ms j).places.count → utilisation (nth ms j) i < g.utilisation

pub record Placeless (ms : List Meaning) (n : ℕ) : Type 0 where
  pub none : (j : ℕ) → j < n → (nth ms j).places.count ≡ 0

abbrev pub Governs : List Meaning → ℕ → Option Governing → Type 0
Governs ms n None = Placeless ms n
Governs ms n (Some g) = Found ms n g

-- the second where it is larger, or where there is no first; else the first
abbrev pub larger : Option Governing → Governing → Governing
larger None h = h
larger (Some g) h = cond (nat_lt g.utilisation h.utilisation) h g

-- with the first n places of the l-th line, from 1
abbrev pub with_places : Option Governing → ℕ → Meaning → ℕ → Option Governing
with_places g l m zero = g
with_places g l m (suc n) = Some (larger (with_places g l m n) (record { utilisation = utilisation m n; line = l; place = suc n }))

-- of the first n lines
abbrev pub of_lines : List Meaning → ℕ → Option Governing
of_lines ms zero = None
of_lines ms (suc n) = with_places (of_lines ms n) (suc n) (nth ms n) (nth ms n).places.count

unfoldable pub governing : List Meaning → Option Governing
governing ms = of_lines ms line_count
