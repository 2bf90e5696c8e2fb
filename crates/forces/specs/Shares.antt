-- The share of a load that an anchor takes. Lengths in µm, loads in mN.
--   gap p q              how far two places lie apart
--   distances n s p      how far the n anchors at spacing s lie from the place p
--   spread x ds          the sum of x - d over the distances d below x
--   share F L d ds       F·(H - d) over the spread of L, rounded up, with H = L + 5; 0 where d is H or more
use Rattle.std.specs.Prelude.{ℕ, zero, suc, ◌+◌, ◌-◌, ◌*◌, List, [], ◌∷◌}
use Rattle.roots.specs.Division.{up}

abbrev pub gap : ℕ → ℕ → ℕ
gap p q = (p - q) + (q - p)

abbrev pub distances : ℕ → ℕ → ℕ → List ℕ
distances zero s p = []
distances (suc k) s p = gap p (k * s) ∷ distances k s p

abbrev pub spread : ℕ → List ℕ → ℕ
spread x [] = 0
spread x (d ∷ ds) = (x - d) + spread x ds

abbrev pub share : ℕ → ℕ → ℕ → List ℕ → ℕ
share F L d ds = up (F * (L + 5 - d)) (spread L ds)
