-- What holds of each line of a list holds of the k-th.
use Rattle.std.specs.Prelude.{ℕ, zero, suc, ◌<◌, List, [], ◌∷◌}
use Rattle.std.proofs.Common.{arith}
use Rattle.failure.specs.Meanings.{Meaning}
use Rattle.verdict.specs.Lines.{nth, no_line}

-- by the number of the line, from 0
abbrev pub Each : (ℕ → Meaning → Type 0) → List Meaning → Type 0
Each P [] = Unit {0}
Each P (m ∷ ms) = P 0 m × Each (λ k. P (suc k)) ms

pub record OfEach (P : ℕ → Meaning → Type 0) (ms : List Meaning) : Type 0 where
  pub each : Each P ms

abbrev pub size : List Meaning → ℕ
size [] = 0
size (m ∷ ms) = suc (size ms)

pub each_nth : (P : ℕ → Meaning → Type 0) (ms : List Meaning) → Each P ms → (k : ℕ) → k < size ms → P k (nth ms k)
each_nth P [] all k h = absurd (omega arith)
each_nth P (m ∷ ms) all zero h = all.0
each_nth P (m ∷ ms) all (suc k) h = each_nth (λ j. P (suc j)) ms all.1 k (omega arith)

-- past the end too, where it holds of a line without places
pub each_line : (P : Meaning → Type 0) (ms : List Meaning) → P no_line → Each (λ _. P) ms → (k : ℕ) → P (nth ms k)
each_line P [] none all k = none
each_line P (m ∷ ms) none all zero = all.0
each_line P (m ∷ ms) none all (suc k) = each_line P ms none all.1 k
