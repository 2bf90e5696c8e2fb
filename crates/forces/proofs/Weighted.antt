-- Shares weighted by at most 1, against their high readings: what all anchors of a load exceed together. Weights in
-- millionths.
use Rattle.std.proofs.Common.{◌≡◌, ℕ, zero, suc, ◌+◌, ◌-◌, ◌*◌, ◌<◌, ◌≤◌, List, [], ◌∷◌, map, length, sum_by, refl, ap, ◌∙◌, ⊎_elim, le_trans, mul-le-mul_right, mul-le-mul_left, mul-pos, le_of_mul-le-mul_right, arith}
use Rattle.std.specs.List.{range_with_len, AllByRecursion}
use Rattle.std.proofs.lemmas.Bool.{cases_lt}
use Rattle.fractions.specs.Fractions.{Fraction, AtMost, whole, less, total}
use Rattle.roots.proofs.Quotients.{up_most}
use Rattle.forces.specs.Shares.{gap, distances, spread, share}
use Rattle.forces.specs.Readings.{spread_of, Beyond}
use Rattle.forces.specs.Cases.{InRange, um, mn, reach, anchor_distances, anchor_distance, share_by, share_read}
use Rattle.forces.specs.declared.opening.Opening.{Opening}
use Rattle.bolts.specs.Loads.{load_of, total_load}
use Rattle.bolts.specs.declared.bolt.Bolt.{Bolt}
use Rattle.bolts.specs.declared.bolt.Direction.{Direction}
use Rattle.std.proofs.lemmas.List.Sums.{sum_by-cons}
use Rattle.forces.proofs.Whole.{within}
use Rattle.forces.proofs.Spreads.{less_low, spread_high, spread_rises, spread_slow, length-distances, spread_long}
use Rattle.forces.proofs.Sums.{sum_by_counting, sum_by_same}

-- weighted sums over the first m anchors
abbrev pub weighted : (ℕ → ℕ) → (ℕ → ℕ) → ℕ → ℕ
weighted v f m = sum_by (λ k. v k * f k) (range_with_len 0 m)

weighted_more : (v f : ℕ → ℕ) (m : ℕ) → weighted v f (suc m) ≡ weighted v f m + v m * f m
weighted_more v f m = sum_by_counting (λ k. v k * f k) m

-- weighted arms are at most the spread
arms_le : (v : ℕ → ℕ) → ((k : ℕ) → v k ≤ 1000000) → (L s p m : ℕ) → weighted v (λ k. L - gap p (k * s)) m ≤ 1000000 * spread L (distances m s p)
arms_le v small L s p zero = omega arith
arms_le v small L s p (suc m) =
    let a = weighted_more v (λ k. L - gap p (k * s)) m in
    let b = arms_le v small L s p m in
    let c = mul-le-mul_right (L - gap p (m * s)) (small m) in
    omega arith

-- weighted shares times the spread
shares_le : (v : ℕ → ℕ) → ((k : ℕ) → v k ≤ 1000000) → (F L s p m : ℕ) (ds : List ℕ) → 0 < spread L ds → weighted v (λ k. share F L (gap p (k * s)) ds) m * spread L ds ≤ F * weighted v (λ k. L - gap p (k * s)) m + 5000000 * (F * m) + 1000000 * (m * spread L ds)
shares_le v small F L s p zero ds pos = omega arith
shares_le v small F L s p (suc m) ds pos =
    let S : ℕ = spread L ds in
    let d : ℕ = gap p (m * s) in
    let n : ℕ = share F L d ds in
    let a = ap (λ (x : ℕ). x * S) (weighted_more v (λ k. share F L (gap p (k * s)) ds) m) in
    let b = ap (λ (x : ℕ). F * x) (weighted_more v (λ k. L - gap p (k * s)) m) in
    let c = shares_le v small F L s p m ds pos in
    let top : n * S ≤ F * (L + 5 - d) + S = omega (arith, up_most (F * (L + 5 - d)) S pos) in
    let arm : F * (L + 5 - d) ≤ F * (L - d) + 5 * F = let h : L + 5 - d ≤ (L - d) + 5 = omega arith in omega (arith, mul-le-mul_left F h) in
    let one : v m * (n * S) ≤ v m * (F * (L - d) + 5 * F + S) = mul-le-mul_left (v m) (omega arith) in
    let g = mul-le-mul_right (5 * F + S) (small m) in
    omega arith

-- the spread of a length and of 5 µm more differ little: what that costs is less than a thousandth of the load
core : (M Y F S T n : ℕ) → M * S ≤ F * Y + 5000000 * (F * n) + 1000000 * (n * S) → Y ≤ 1000000 * S → S ≤ T → T ≤ S + 60 → n ≤ 12 → 130000 ≤ S → 13000 * M * T ≤ 13000 * F * Y + (12000000 * F + 156000000000) * T
core M Y F S T n h y st ts few large =
    let a = mul-le-mul_right (13000 * T) h in
    let b = mul-le-mul_left (13000 * (F * Y)) ts in
    let c = mul-le-mul_left (780000 * F) y in
    let d = mul-le-mul_left (6000000 * (F * S)) (le_trans large st) in
    let e = mul-le-mul_left (6000000 * (F * T)) large in
    let f = mul-le-mul_left (65000000000 * (F * T)) few in
    let g = mul-le-mul_left (13000000000 * (S * T)) few in
    le_of_mul-le-mul_right {k = S} (omega arith) (omega arith)

-- and against the ends of the length
rest : (M F Y T U X C lb hb e : ℕ) → 13000 * M * T ≤ 13000 * F * Y + C * T → U ≤ T * lb → Y * hb ≤ X → e + C ≡ 13000 * M → 13000 * M * (hb * U) ≤ 13000 * F * X * lb + C * (hb * U)
rest M F Y T U X C lb hb e h u k is =
    let t : e * T ≤ 13000 * F * Y = let g : (e + C) * T ≡ 13000 * M * T = rw is in omega (arith, g) in
    let w : 13000 * M * (hb * U) ≡ (e + C) * (hb * U) = rw is in
    omega (arith, w, mul-le-mul_left (e * hb) u, mul-le-mul_right (hb * lb) t, mul-le-mul_left (13000 * F * lb) k)

read_by : (M F Y T U X C lb hb : ℕ) → 13000 * M * T ≤ 13000 * F * Y + C * T → U ≤ T * lb → Y * hb ≤ X → 13000 * M * (hb * U) ≤ 13000 * F * X * lb + C * (hb * U)
read_by M F Y T U X C lb hb h u k =
    ⊎_elim
    (λ (few : 13000 * M < C). omega (arith, mul-le-mul_right (hb * U) few))
    (λ (many : C ≤ 13000 * M). rest M F Y T U X C lb hb (13000 * M - C) h u k (omega arith))
    (cases_lt (13000 * M) C)

arms_read : (v : ℕ → ℕ) (L s p m : ℕ) (hi : Fraction) → L * hi.below ≤ hi.above → weighted v (λ k. L - gap p (k * s)) m * hi.below ≤ weighted v (λ k. (less hi (gap p (k * s))).above) m
arms_read v L s p zero hi h = omega arith
arms_read v L s p (suc m) hi h =
    let a = ap (λ (x : ℕ). x * hi.below) (weighted_more v (λ k. L - gap p (k * s)) m) in
    let b = weighted_more v (λ k. (less hi (gap p (k * s))).above) m in
    let c = arms_read v L s p m hi h in
    let d = mul-le-mul_left (v m) (less_low L (gap p (m * s)) hi h) in
    omega arith

-- one load on n anchors: the weighted shares against the weighted high readings
pub shares_near : (v : ℕ → ℕ) → ((k : ℕ) → v k ≤ 1000000) → (F L n s p : ℕ) (lo hi : Fraction) → 0 < n → n ≤ 12 → p + s ≤ n * s → s ≤ L → 130000 ≤ L → AtMost lo (whole (L + 5)) → AtMost (whole L) hi → 13000 * weighted v (λ k. share F L (gap p (k * s)) (distances n s p)) n * (hi.below * spread_of lo (distances n s p)) ≤ 13000 * F * weighted v (λ k. (less hi (gap p (k * s))).above) n * lo.below + (12000000 * F + 156000000000) * (hi.below * spread_of lo (distances n s p))
shares_near v small F L n s p lo hi some twelve inside wider long low high =
    let ds : List ℕ = distances n s p in
    let S : ℕ = spread L ds in
    let T : ℕ = spread (L + 5) ds in
    let big : L ≤ S = spread_long n s p L some inside wider in
    let slow : T ≤ S + 60 = omega (arith, spread_slow L ds, length-distances n s p) in
    let M : ℕ = weighted v (λ k. share F L (gap p (k * s)) ds) n in
    let Y : ℕ = weighted v (λ k. L - gap p (k * s)) n in
    let one = core M Y F S T n (shares_le v small F L s p n ds (omega arith)) (arms_le v small L s p n) (spread_rises L ds) slow twelve (omega arith) in
    read_by M F Y T (spread_of lo ds) (weighted v (λ k. (less hi (gap p (k * s))).above) n) (12000000 * F + 156000000000) lo.below hi.below one (spread_high (L + 5) lo (omega arith) ds) (arms_read v L s p n hi (omega arith))

weighted_plus : (v f g : ℕ → ℕ) (m : ℕ) → weighted v (λ k. f k + g k) m ≡ weighted v f m + weighted v g m
weighted_plus v f g zero = refl
weighted_plus v f g (suc m) =
    let a = weighted_more v (λ k. f k + g k) m in
    let b = weighted_more v f m in
    let c = weighted_more v g m in
    let d = weighted_plus v f g m in
    omega arith

weighted_scaled : (v f : ℕ → ℕ) (w m : ℕ) → weighted v (λ k. f k * w) m ≡ weighted v f m * w
weighted_scaled v f w zero = omega arith
weighted_scaled v f w (suc m) =
    let a = weighted_more v (λ k. f k * w) m in
    let b = ap (λ (x : ℕ). x * w) (weighted_more v f m) in
    let c = weighted_scaled v f w m in
    omega arith

weighted_same : (v f g : ℕ → ℕ) (m : ℕ) → ((k : ℕ) → f k ≡ g k) → weighted v f m ≡ weighted v g m
weighted_same v f g m e = sum_by_same (λ k. v k * f k) (λ k. v k * g k) (range_with_len 0 m) (λ k. ap (λ (x : ℕ). v k * x) (e k))

-- the forces of a list of bolts: one more bolt, with the readings over one common lower number
one_more : (M M' D B A A' C C' : ℕ) → 13000 * M * D ≤ 13000 * A + C * D → 13000 * M' * B ≤ 13000 * A' + C' * B → 13000 * (M + M') * (D * B) ≤ 13000 * (A * B + A' * D) + (C + C') * (D * B)
one_more M M' D B A A' C C' h k = omega (arith, mul-le-mul_right B h, mul-le-mul_right D k)

-- the exact force on the k-th anchor, with the upper end y above the line and the lower end x in the sums
abbrev pub high_read : Fraction → Fraction → Opening → Direction → List Bolt → ℕ → Fraction
high_read x y o d bs k = total (map (share_read y x o d k) bs)

-- its lower number is the same for every anchor
abbrev pub common : Fraction → Fraction → Opening → Direction → List Bolt → ℕ
common x y o d bs = (high_read x y o d bs 0).below

pub below_same : (x y : Fraction) (o : Opening) (d : Direction) (k : ℕ) (bs : List Bolt) → (high_read x y o d bs k).below ≡ common x y o d bs
below_same x y o d k [] = refl
below_same x y o d k (b ∷ bs) = ap (λ (n : ℕ). (share_read y x o d 0 b).below * n) (below_same x y o d k bs)

-- what all anchors together may exceed, in 13,000ths
abbrev pub slack : Direction → List Bolt → ℕ
slack d bs = 12000000 * mn (total_load d bs) + 156000000000 * length bs

above_is : (F g xb K B A E D : ℕ) → K ≡ B → E ≡ D → F * g * xb * K + A * E ≡ g * (F * xb * B) + A * D
above_is F g xb K B A E D e f = omega (arith, ap (λ (n : ℕ). F * g * xb * n) e, ap (λ (n : ℕ). A * n) f)

both : {a b c e : ℕ} → a ≡ b → c ≡ e → a + c ≡ b + e
both p q = omega arith

moved : (W W' K K' R R' Z Z' : ℕ) → W ≡ W' → K ≡ K' → R ≡ R' → Z ≡ Z' → 13000 * W' * K' ≤ 13000 * R' + Z' * K' → 13000 * W * K ≤ 13000 * R + Z * K
moved W W' K K' R R' Z Z' a b c e h = rw (a, b, c, e) h

module _ (v : ℕ → ℕ) (small : (k : ℕ) → v k ≤ 1000000) (L : ℕ) (o : Opening) (d : Direction) (x y : Fraction) (ranged : InRange o) (wider : um o.spacing ≤ L) (long : 130000 ≤ L) (low : AtMost x (whole (L + 5))) (high : AtMost (whole L) y) where
  pub forces_near : (bs : List Bolt) → AllByRecursion (λ b. b.position ≤ reach o) bs → AllByRecursion (λ b. Beyond x (anchor_distances o b)) bs → 13000 * weighted v (λ k. sum_by (share_by L o d k) bs) o.anchors * common x y o d bs ≤ 13000 * weighted v (λ k. (high_read x y o d bs k).above) o.anchors + slack d bs * common x y o d bs
  forces_near [] all past =
      let z = weighted_scaled v (λ k. 0) 0 o.anchors in
      omega arith
  forces_near (b ∷ bs) (h, all) (p, past) =
      let n : ℕ = o.anchors in
      let s : ℕ = um o.spacing in
      let F : ℕ = mn (load_of d b) in
      let D : ℕ = y.below * spread_of x (anchor_distances o b) in
      let B : ℕ = common x y o d bs in
      let pos : 0 < D = mul-pos y.proper p in
      let near = shares_near v small F L n s (um b.position) x y (omega (arith, ranged.two)) ranged.twelve (within o ranged b h) wider long low high in
      let rest-near = forces_near bs all past in
      let M : ℕ = weighted v (λ k. share_by L o d k b) n in
      let M' : ℕ = weighted v (λ k. sum_by (share_by L o d k) bs) n in
      let X : ℕ = weighted v (λ k. (less y (anchor_distance o b k)).above) n in
      let A' : ℕ = weighted v (λ k. (high_read x y o d bs k).above) n in
      let T = sum_by-cons (load_of d) b bs in
      let forces : weighted v (λ k. sum_by (share_by L o d k) (b ∷ bs)) n ≡ M + M' =
      weighted_same v (λ k. sum_by (share_by L o d k) (b ∷ bs)) (λ k. share_by L o d k b + sum_by (share_by L o d k) bs) n (λ k. sum_by-cons (share_by L o d k) b bs) ∙ weighted_plus v (λ k. share_by L o d k b) (λ k. sum_by (share_by L o d k) bs) n in
      let lower : (D - 1) + 1 ≡ D = omega arith in
      let g : ℕ → ℕ = λ k. (less y (anchor_distance o b k)).above in
      let each : (k : ℕ) → (high_read x y o d (b ∷ bs) k).above ≡ g k * (F * x.below * B) + (high_read x y o d bs k).above * D =
      λ k. above_is F (g k) x.below (high_read x y o d bs k).below B (high_read x y o d bs k).above ((D - 1) + 1) D (below_same x y o d k bs) lower in
      let reads : weighted v (λ k. (high_read x y o d (b ∷ bs) k).above) n ≡ X * (F * x.below * B) + A' * D =
      weighted_same v (λ k. (high_read x y o d (b ∷ bs) k).above) (λ k. g k * (F * x.below * B) + (high_read x y o d bs k).above * D) n each
      ∙ weighted_plus v (λ k. g k * (F * x.below * B)) (λ k. (high_read x y o d bs k).above * D) n
      ∙ both (weighted_scaled v g (F * x.below * B) n) (weighted_scaled v (λ k. (high_read x y o d bs k).above) D n) in
      let C : ℕ = 12000000 * F + 156000000000 in
      let sum = one_more M M' D B (F * X * x.below) A' C (slack d bs) (omega (arith, near)) rest-near in
      let order : X * (F * x.below * B) + A' * D ≡ F * X * x.below * B + A' * D = omega arith in
      let slacks : slack d (b ∷ bs) ≡ C + slack d bs = omega (arith, T) in
      moved _ (M + M') _ (D * B) _ (F * X * x.below * B + A' * D) _ (C + slack d bs) forces (ap (λ (m : ℕ). m * B) lower) (reads ∙ order) slacks sum
