-- The spread of a whole number against that of a fraction beside it, and how large it is.
use Rattle.std.proofs.Common.{◌≡◌, ℕ, zero, suc, ◌+◌, ◌-◌, ◌*◌, ◌<◌, ◌≤◌, List, [], ◌∷◌, length, refl, ⊎_elim, arith}
use native.Mathlib.Nat.{mul-sub}
use Rattle.std.proofs.lemmas.Bool.{cases_lt}
use Rattle.fractions.specs.Fractions.{Fraction, less}
use Rattle.forces.specs.Shares.{gap, distances, spread}
use Rattle.forces.specs.Readings.{spread_of}

pub less_low : (L d : ℕ) (x : Fraction) → L * x.below ≤ x.above → (L - d) * x.below ≤ (less x d).above
less_low L d x h = omega (arith, mul-sub x.below L d)

pub less_high : (H d : ℕ) (x : Fraction) → x.above ≤ H * x.below → (less x d).above ≤ (H - d) * x.below
less_high H d x h = omega (arith, mul-sub x.below H d)

pub spread_low : (L : ℕ) (x : Fraction) → L * x.below ≤ x.above → (ds : List ℕ) → spread L ds * x.below ≤ spread_of x ds
spread_low L x h [] = omega arith
spread_low L x h (d ∷ ds) = omega (arith, less_low L d x h, spread_low L x h ds)

pub spread_high : (H : ℕ) (x : Fraction) → x.above ≤ H * x.below → (ds : List ℕ) → spread_of x ds ≤ spread H ds * x.below
spread_high H x h [] = omega arith
spread_high H x h (d ∷ ds) = omega (arith, less_high H d x h, spread_high H x h ds)

pub spread_rises : (L : ℕ) (ds : List ℕ) → spread L ds ≤ spread (L + 5) ds
spread_rises L [] = omega arith
spread_rises L (d ∷ ds) = omega (arith, spread_rises L ds)

pub spread_slow : (L : ℕ) (ds : List ℕ) → spread (L + 5) ds ≤ spread L ds + 5 * length ds
spread_slow L [] = omega arith
spread_slow L (d ∷ ds) = omega (arith, spread_slow L ds)

pub length-distances : (n s p : ℕ) → length (distances n s p) ≡ n
length-distances zero s p = refl
length-distances (suc k) s p = rw (length-distances k s p)

pub spread_most : (most L n s p : ℕ) → L ≤ most → spread L (distances n s p) ≤ n * most
spread_most most L zero s p h = omega arith
spread_most most L (suc k) s p h = omega (arith, spread_most most L k s p h)

-- the two anchors about a place give the whole length
pub spread_large : (k s p L : ℕ) → p ≤ k * s → s ≤ L → L ≤ spread L (distances (suc k) s p)
spread_large zero s p L h sl = omega arith
spread_large (suc j) s p L h sl =
    ⊎_elim
    (λ (past : j * s < p). omega arith)
    (λ (before : p ≤ j * s). omega (arith, spread_large j s p L before sl))
    (cases_lt (j * s) p)

pub spread_long : (n s p L : ℕ) → 0 < n → p + s ≤ n * s → s ≤ L → L ≤ spread L (distances n s p)
spread_long zero s p L h inside sl = omega arith
spread_long (suc k) s p L h inside sl = spread_large k s p L (omega arith) sl

pub one_of : (n s p L i : ℕ) → i < n → L - gap p (i * s) ≤ spread L (distances n s p)
one_of zero s p L i h = omega arith
one_of (suc k) s p L i h =
    ⊎_elim
    (λ (past : i < k). omega (arith, one_of k s p L i past))
    (λ (here : k ≤ i). let e : i ≡ k = omega arith in rw e (omega arith))
    (cases_lt i k)
