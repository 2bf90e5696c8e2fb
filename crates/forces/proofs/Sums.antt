-- Sums over anchors and over bolts.
use Rattle.std.proofs.Common.{◌≡◌, ℕ, zero, suc, ◌+◌, ◌-◌, ◌*◌, ◌<◌, ◌≤◌, List, [], ◌∷◌, sum_by, sym, refl, ap, ◌∙◌, mul-le-mul_right, mul-le-mul_left, le_of_mul-le-mul_right, add-one, arith}
use Rattle.std.specs.List.{range_with_len}
use Rattle.std.proofs.lemmas.List.FromFn.{sum_by-map-range_with_len_more}
use Rattle.std.proofs.lemmas.List.Sums.{sum_by-cons, sum-map}
use Rattle.roots.proofs.Quotients.{up_most}
use Rattle.forces.specs.Shares.{gap, distances, spread, share}
use Rattle.forces.proofs.Spreads.{spread_slow, length-distances, spread_large}

pub sum_by_counting : (f : ℕ → ℕ) (n : ℕ) → sum_by f (range_with_len 0 (suc n)) ≡ sum_by f (range_with_len 0 n) + f n
sum_by_counting f n =
    let more = sum_by-map-range_with_len_more (λ x. x) f 0 n n (omega arith) in
    let one : sum_by f (range_with_len 0 (n + 1)) ≡ sum_by f (range_with_len 0 n) + f n = omega (arith, more, sum-map f (range_with_len 0 (n + 1)), sum-map f (range_with_len 0 n)) in
    ap (λ (m : ℕ). sum_by f (range_with_len 0 m)) (sym (add-one n)) ∙ one

-- the spread as a sum over the anchors
pub spread_sum : (L n s p : ℕ) → sum_by (λ k. L - gap p (k * s)) (range_with_len 0 n) ≡ spread L (distances n s p)
spread_sum L zero s p = refl
spread_sum L (suc k) s p = omega (arith, sum_by_counting (λ j. L - gap p (j * s)) k, spread_sum L k s p)

pub sum_by-plus : {X : Type 0} (f g : X → ℕ) (xs : List X) → sum_by (λ x. f x + g x) xs ≡ sum_by f xs + sum_by g xs
sum_by-plus f g [] = refl
sum_by-plus f g (x ∷ xs) =
    let a = sum_by-cons (λ y. f y + g y) x xs in
    let b = sum_by-cons f x xs in
    let c = sum_by-cons g x xs in
    let d = sum_by-plus f g xs in
    omega arith

pub sum_by_zero : {X : Type 0} (xs : List X) → sum_by (λ x. 0) xs ≡ 0
sum_by_zero [] = refl
sum_by_zero (x ∷ xs) = let a = sum_by-cons (λ y. 0) x xs in let b = sum_by_zero xs in omega arith

pub sum_by_same : {X : Type 0} (f g : X → ℕ) (xs : List X) → ((x : X) → f x ≡ g x) → sum_by f xs ≡ sum_by g xs
sum_by_same f g [] e = refl
sum_by_same f g (x ∷ xs) e =
    let a = sum_by-cons f x xs in
    let b = sum_by-cons g x xs in
    let c = sum_by_same f g xs e in
    let d = e x in
    omega arith

-- first over one list, then over the other
pub sum_by_swap : {X Y : Type 0} (f : X → Y → ℕ) (xs : List X) (ys : List Y) → sum_by (λ y. sum_by (λ x. f x y) xs) ys ≡ sum_by (λ x. sum_by (f x) ys) xs
sum_by_swap f [] ys = sum_by_zero ys
sum_by_swap f (x ∷ xs) ys =
    let a = sum_by_same (λ y. sum_by (λ z. f z y) (x ∷ xs)) (λ y. f x y + sum_by (λ z. f z y) xs) ys (λ y. sum_by-cons (λ z. f z y) x xs) in
    let b = sum_by-plus (f x) (λ y. sum_by (λ z. f z y) xs) ys in
    let c = sum_by-cons (λ z. sum_by (f z) ys) x xs in
    let d = sum_by_swap f xs ys in
    omega arith

-- weights of at most w weigh a sum at most w times
pub weighted_le : {X : Type 0} (w : ℕ) (v f : X → ℕ) (xs : List X) → ((x : X) → v x ≤ w) → sum_by (λ x. v x * f x) xs ≤ w * sum_by f xs
weighted_le w v f [] h = omega arith
weighted_le w v f (x ∷ xs) h =
    let a = sum_by-cons (λ y. v y * f y) x xs in
    let b = ap (λ (n : ℕ). w * n) (sum_by-cons f x xs) in
    let c = weighted_le w v f xs h in
    let d = mul-le-mul_right (f x) (h x) in
    omega arith

-- all shares of a load, times the spread
shares_times : (F L s p m : ℕ) (ds : List ℕ) → 0 < spread L ds → sum_by (λ k. share F L (gap p (k * s)) ds) (range_with_len 0 m) * spread L ds ≤ F * spread (L + 5) (distances m s p) + m * spread L ds
shares_times F L s p zero ds h = omega arith
shares_times F L s p (suc m) ds h =
    let f : ℕ → ℕ = λ k. share F L (gap p (k * s)) ds in
    let a = ap (λ (n : ℕ). n * spread L ds) (sum_by_counting f m) in
    let b = shares_times F L s p m ds h in
    let c = up_most (F * (L + 5 - gap p (m * s))) (spread L ds) h in
    omega arith

-- all anchors together take at most a thousandth and 1 mN each above the load
pub shares_le : (f L n s p : ℕ) → 0 < n → n ≤ 12 → p + s ≤ n * s → s ≤ L → 66000 ≤ L → sum_by (λ k. share (1000 * f) L (gap p (k * s)) (distances n s p)) (range_with_len 0 n) ≤ 1001 * f + 12
shares_le f L zero s p pos twelve inside wider long = omega arith
shares_le f L (suc k) s p pos twelve inside wider long =
    let n : ℕ = suc k in
    let ds : List ℕ = distances n s p in
    let S : ℕ = spread L ds in
    let big : L ≤ S = spread_large k s p L (omega arith) wider in
    let slow : spread (L + 5) ds ≤ S + 60 = omega (arith, spread_slow L ds, length-distances n s p) in
    let all = shares_times (1000 * f) L s p n ds (omega arith) in
    let a = mul-le-mul_left (1000 * f) slow in
    let b : 66000 * f ≤ S * f = mul-le-mul_right f (omega arith) in
    let d : n * S ≤ 12 * S = mul-le-mul_right S twelve in
    le_of_mul-le-mul_right {k = S} (omega arith) (omega arith)
