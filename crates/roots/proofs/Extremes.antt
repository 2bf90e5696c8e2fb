-- The greatest and the least number with a property: there is one at most, and greatest_of and least_of find it.
use Rattle.std.proofs.Common.{◌≡◌, ℕ, zero, suc, ◌+◌, ◌^◌, ◌<◌, ◌≤◌, Bool, true, false, not, T, leb, refl, le_trans, le_antisymm, arith, le→leb, leb→le, T_not}
use lib.Dec.{not_T}
use Rattle.roots.specs.Extremes.{Greatest, Least, by_bits, greatest_of, least_of}

pub greatest_one : (P : ℕ → Type 0) (r s : ℕ) → Greatest P r → Greatest P s → r ≡ s
greatest_one P r s g h = le_antisymm (h.most r g.fits) (g.most s h.fits)

pub least_one : (P : ℕ → Type 0) (r s : ℕ) → Least P r → Least P s → r ≡ s
least_one P r s g h = le_antisymm (g.least s h.fits) (h.least r g.fits)

pub greatest_next : (P : ℕ → Type 0) (r : ℕ) → Greatest P r → P (r + 1) → ⊥
greatest_next P r g h = omega (arith, g.most (r + 1) h)

-- a property that falls, and that r has and r + 1 has not
pub greatest_by : (P : ℕ → Type 0) (r : ℕ) → ((m n : ℕ) → m ≤ n → P n → P m) → P r → (P (r + 1) → ⊥) → Greatest P r
greatest_by P r falls h fails =
    record { fits = h; most = λ n p. let not_above : r + 1 ≤ n → ⊥ = λ k. fails (falls (r + 1) n k p) in omega arith }

-- r passes and the next does not
abbrev Last : (ℕ → Bool) → ℕ → Type 0
Last f r = T (f r) × (T (f (r + 1)) → ⊥)

by_bits_last : (f : ℕ → Bool) (k low : ℕ) → T (f low) → (T (f (low + 2 ^ k)) → ⊥) → Last f (by_bits f k low)
unfolding by_bits
by_bits_last f zero low h n = (h, n)
by_bits_last f (suc k) low h n = step (λ m. by_bits_last f k m) (f (low + 2 ^ k)) refl
  where
    step : ((m : ℕ) → T (f m) → (T (f (m + 2 ^ k)) → ⊥) → Last f (by_bits f k m)) → (v : Bool) → f (low + 2 ^ k) ≡ v
        → Last f (elim v [ true ↦ by_bits f k (low + 2 ^ k) | false ↦ by_bits f k low ])
    step ih true e =
        let twice : low + 2 ^ k + 2 ^ k ≡ low + 2 ^ suc k = omega arith in
        ih (low + 2 ^ k) (rw e tt) (λ t. n (rw (← twice) t))
    step ih false e = ih low h (λ t. rw e at t)

-- a property that falls, with a test that says the same
pub greatest_of_passes : (P : ℕ → Type 0) (f : ℕ → Bool) (k : ℕ) → ((m n : ℕ) → m ≤ n → P n → P m)
    → ((n : ℕ) → T (f n) → P n) → ((n : ℕ) → P n → T (f n)) → P 0 → (P (2 ^ k) → ⊥) → Greatest P (greatest_of k f)
unfolding greatest_of
greatest_of_passes P f k falls tells told starts ends =
    let last : Last f (by_bits f k 0) =
    by_bits_last f k 0 (told 0 starts) (λ t. let e : 0 + 2 ^ k ≡ 2 ^ k = omega arith in ends (tells (2 ^ k) (rw e at t))) in
    greatest_by P (by_bits f k 0) falls (tells (by_bits f k 0) last.0) (λ h. last.1 (told (by_bits f k 0 + 1) h))

-- the greatest n with g n at most x, where g rises
pub greatest_of_is : (k x : ℕ) (g : ℕ → ℕ) → ((m n : ℕ) → m ≤ n → g m ≤ g n) → g 0 ≤ x → x < g (2 ^ k)
    → Greatest (λ n. g n ≤ x) (greatest_of k (λ n. leb (g n) x))
greatest_of_is k x g rises low high =
    greatest_of_passes (λ n. g n ≤ x) (λ n. leb (g n) x) k (λ m n h p. le_trans (rises m n h) p)
    (λ n t. leb→le (g n) x t) (λ n p. le→leb (g n) x p) low (λ h. omega arith)

-- where g rises, one more than the greatest n with g n below x is the least with g n at least x
pub least_after : (x : ℕ) (g : ℕ → ℕ) → ((m n : ℕ) → m ≤ n → g m ≤ g n) → (r : ℕ) → Greatest (λ n. g n < x) r
    → Least (λ n. x ≤ g n) (r + 1)
least_after x g rises r h =
    let past : g (r + 1) < x → ⊥ = λ p. omega (arith, h.most (r + 1) p) in
    record {
      fits = omega arith;
      least = λ n p. let no_less : n ≤ r → ⊥ = λ k. omega (arith, rises n r k, h.fits) in omega arith;
    }

-- the least n with g n at least x, where g rises
pub least_of_is : (k x : ℕ) (g : ℕ → ℕ) → ((m n : ℕ) → m ≤ n → g m ≤ g n) → g 0 < x → x ≤ g (2 ^ k)
    → Least (λ n. x ≤ g n) (least_of k (λ n. leb x (g n)))
unfolding least_of
least_of_is k x g rises low high =
    least_after x g rises (greatest_of k (λ n. not (leb x (g n))))
    (greatest_of_passes (λ n. g n < x) (λ n. not (leb x (g n))) k (λ m n h p. omega (arith, rises m n h))
    (λ n t. let more : x ≤ g n → ⊥ = λ p. T_not (leb x (g n)) t (le→leb x (g n) p) in omega arith)
    (λ n p. not_T (leb x (g n)) (λ t. omega (arith, leb→le x (g n) t))) low (λ h. omega arith))
