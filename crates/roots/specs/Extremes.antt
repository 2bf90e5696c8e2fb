-- The greatest and the least number with a property.
--   Greatest P r, Least P r   r has the property P, and no greater (no lesser) number has it
--   greatest_of k test        the greatest number below 2^k that passes a test, bit by bit; 0 where only 0 passes
--   least_of k test           the least number from 1 to 2^k that passes a test
use Rattle.std.specs.Prelude.{ℕ, zero, suc, ◌+◌, ◌^◌, ◌≤◌, Bool, true, false, not}

pub record Greatest (P : ℕ → Type 0) (r : ℕ) : Type 0 where
  pub fits : P r
  pub most : (n : ℕ) → P n → n ≤ r

pub record Least (P : ℕ → Type 0) (r : ℕ) : Type 0 where
  pub fits : P r
  pub least : (n : ℕ) → P n → r ≤ n

-- the greatest number from low to below low + 2^k that passes, the highest bit first
unfoldable pub by_bits : (ℕ → Bool) → ℕ → ℕ → ℕ
by_bits test zero low = low
by_bits test (suc k) low = elim (test (low + 2 ^ k)) [ true ↦ by_bits test k (low + 2 ^ k) | false ↦ by_bits test k low ]

unfoldable pub greatest_of : ℕ → (ℕ → Bool) → ℕ
greatest_of k test = by_bits test k 0

-- one more than the greatest that does not pass
unfoldable pub least_of : ℕ → (ℕ → Bool) → ℕ
least_of k test = greatest_of k (λ n. not (test n)) + 1
