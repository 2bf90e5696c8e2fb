-- The group effect is never below its low readings, and hardly above its high ones.
use Rattle.std.proofs.Common.{◌≡◌, ℕ, ◌+◌, ◌-◌, ◌*◌, ◌^◌, ◌<◌, ◌≤◌, Bool, true, false, cond, eqb, List, [], ◌∷◌, map, length, get_or, sum_by, refl, ap, subst, mul-le-mul_right, mul-le-mul_left, le_of_mul-le-mul_right, arith, lit<}
use Rattle.std.specs.List.{range_with_len, All}
use Rattle.std.proofs.lemmas.List.Sums.{sum_by-cons}
use Rattle.std.proofs.lemmas.List.Elements.{All-head, All-tail, All-from_get_or}
use Rattle.std.proofs.lemmas.List.FromFn.{length-range_with_len, get_or-range_with_len}
use Rattle.fractions.specs.Fractions.{Fraction, AtMost, whole, plus, times, total}
use Rattle.fractions.proofs.Totals.{plus_whole}
use Rattle.influence.specs.Lengths as lengths
use Rattle.influence.specs.Exact.{low_length, high_length}
use Rattle.influence.proofs.Lengths.{length_not_above, length_not_below, length_at_least, length_past_spacing}
use Rattle.roots.specs.Division.{up}
use Rattle.roots.proofs.Quotients.{up_least, up_most}
use Rattle.bolts.specs.Loads.{total_load}
use Rattle.bolts.proofs.Bounds.{total_load_bound}
use Rattle.bolts.specs.declared.bolt.Direction.{Direction}
use Rattle.forces.specs.Cases.{Case, Valid, force_read}
use Rattle.forces.specs.Exact.{force, length_of}
use Rattle.forces.proofs.Exactness.{accurate, forces_sum}
use Rattle.forces.proofs.Sums.{weighted_le}
use Rattle.forces.proofs.Weighted.{weighted, high_read, common, below_same, forces_near}
use Rattle.forces.proofs.Whole.{positions}
use Rattle.forces.specs.declared.opening.Opening.{Opening}
use Rattle.groups.specs.Weights.{weight, low_weight, high_weight}
use Rattle.groups.specs.Groups.{apart, weight_on, part, group_effect, own_or, LowChoice, HighChoice, low_part, high_part, low_effect, high_effect}
use Rattle.groups.proofs.Weights.{weight_covers, weight_near, weight_small, weight_on_small}

-- each reading is at most its number, so the total is
totals_le : {X : Type 0} (f : X → Fraction) (g : X → ℕ) (xs : List X) → All (λ x. AtMost (f x) (whole (g x))) xs → AtMost (total (map f xs)) (whole (sum_by g xs))
totals_le f g [] all = omega arith
totals_le f g (x ∷ xs) all =
    let h = All-head (λ y. AtMost (f y) (whole (g y))) x xs all in
    let rest = totals_le f g xs (All-tail (λ y. AtMost (f y) (whole (g y))) x xs all) in
    let e = sum_by-cons g x xs in
    rw e (plus_whole (f x) (total (map f xs)) (g x) (sum_by g xs) h rest)

-- numbers over one divisor, each at most its reading
over_totals : {X : Type 0} (f : X → Fraction) (g : X → ℕ) (D : ℕ) (xs : List X) → All (λ x. g x * (f x).below ≤ (f x).above * D) xs → sum_by g xs * (total (map f xs)).below ≤ (total (map f xs)).above * D
over_totals f g D [] all = omega arith
over_totals f g D (x ∷ xs) all =
    let h = All-head (λ y. g y * (f y).below ≤ (f y).above * D) x xs all in
    let rest = over_totals f g D xs (All-tail (λ y. g y * (f y).below ≤ (f y).above * D) x xs all) in
    let e = ap (λ (n : ℕ). n * ((f x).below * (total (map f xs)).below)) (sum_by-cons g x xs) in
    let a = mul-le-mul_right (total (map f xs)).below h in
    let b = mul-le-mul_right (f x).below rest in
    omega arith

-- what holds of every anchor
all_anchors : (P : ℕ → Type 0) (n : ℕ) → ((j : ℕ) → j < n → P j) → All P (range_with_len 0 n)
all_anchors P n f =
    All-from_get_or P (range_with_len 0 n) 0 (λ i h.
    let lt : i < n = omega (arith, h, length-range_with_len 0 n) in
    let at : i ≡ get_or (range_with_len 0 n) i 0 = omega (arith, get_or-range_with_len 0 n i 0 lt) in
    subst P at (f i lt))

-- one part: own force, or a neighbour's weighted one
own_low : (F fn fd : ℕ) → fn ≤ F * fd → 1 * fn ≤ up (1000000 * F) 1000000 * (1 * fd)
own_low F fn fd h = let a = up_least (1000000 * F) 1000000 (lit< tt) in omega (arith, mul-le-mul_right fd a)

other_low : (u S ln ld w F fn fd : ℕ) → u * ln * 1000000 ≤ w * (S * ld) → fn ≤ F * fd → u * ln * fn ≤ up (w * F) 1000000 * (S * ld * fd)
other_low u S ln ld w F fn fd h k =
    let a = up_least (w * F) 1000000 (lit< tt) in
    let b = mul-le-mul_right fn h in
    let c = mul-le-mul_left (w * (S * ld)) k in
    let d = mul-le-mul_right (S * ld * fd) a in
    omega arith

module _ (S : ℕ) (pos : 0 < S) (c : Case) (d : Direction) (k : ℕ) (valid : Valid c) where
  low_at : (h : LowChoice S pos c k) (j : ℕ) → j < c.opening.anchors → (t : Bool) → eqb j k ≡ t → AtMost (times (own_or t (low_weight (h.weights j))) (force_read (low_length h.ends) (high_length h.ends) c d j)) (whole (up (cond t 1000000 (weight S (apart c.opening k j)) * force c d j) 1000000))
  low_at h j here true e =
      let f = force_read (low_length h.ends) (high_length h.ends) c d j in
      let n = (accurate c d valid).never_below j here h.ends in
      omega (arith, own_low (force c d j) f.above f.below (omega (arith, n)))
  low_at h j here false e =
      let f = force_read (low_length h.ends) (high_length h.ends) c d j in
      let n = (accurate c d valid).never_below j here h.ends in
      let w = h.weights j in
      let a = weight_covers S (apart c.opening k j) pos w in
      omega (arith, other_low (S - apart c.opening k j) S w.root.above w.root.below (weight S (apart c.opening k j)) (force c d j) f.above f.below a (omega (arith, n)))

  pub effect_covers : (h : LowChoice S pos c k) → AtMost (low_effect h d) (whole (group_effect S c d k))
  effect_covers h = totals_le (low_part h d) (part S c d k) (range_with_len 0 c.opening.anchors) (all_anchors (λ j. AtMost (low_part h d j) (whole (part S c d k j))) c.opening.anchors (λ j here. low_at h j here (eqb j k) refl))

-- the parts of an effect, rounded up, against the weighted forces
parts_le : (w F : ℕ → ℕ) (xs : List ℕ) → 1000000 * sum_by (λ j. up (w j * F j) 1000000) xs ≤ sum_by (λ j. w j * F j) xs + 1000000 * length xs
parts_le w F [] = omega arith
parts_le w F (j ∷ js) =
    let a = ap (λ (n : ℕ). 1000000 * n) (sum_by-cons (λ i. up (w i * F i) 1000000) j js) in
    let b = sum_by-cons (λ i. w i * F i) j js in
    let c = parts_le w F js in
    let e = up_most (w j * F j) 1000000 (lit< tt) in
    omega arith

-- all parts together are little more than all forces
pub effect_small : (S : ℕ) → 0 < S → (c : Case) (d : Direction) (k : ℕ) → Valid c → group_effect S c d k < 2 ^ 64
effect_small S pos c d k valid =
    let n : ℕ = c.opening.anchors in
    let rounded = parts_le (weight_on S c.opening k) (force c d) (range_with_len 0 n) in
    let all = weighted_le 1000000 (weight_on S c.opening k) (force c d) (range_with_len 0 n) (weight_on_small S pos c.opening k) in
    omega (arith, rounded, all, forces_sum c d valid, total_load_bound d _ c.bolts valid.sound valid.few, length-range_with_len 0 n, valid.opened.twelve, valid.few)

-- a weight less 2 millionths
lighter_le : (w v F : ℕ → ℕ) (xs : List ℕ) → ((j : ℕ) → w j ≤ v j + 2) → sum_by (λ j. w j * F j) xs ≤ sum_by (λ j. v j * F j) xs + 2 * sum_by F xs
lighter_le w v F [] h = omega arith
lighter_le w v F (j ∷ js) h =
    let a = sum_by-cons (λ i. w i * F i) j js in
    let b = sum_by-cons (λ i. v i * F i) j js in
    let c = ap (λ (n : ℕ). 2 * n) (sum_by-cons F j js) in
    let e = lighter_le w v F js h in
    let g = mul-le-mul_right (F j) (h j) in
    omega arith

-- the weight that the exact one is at least
abbrev lighter : ℕ → Opening → ℕ → ℕ → ℕ
lighter S o k j = cond (eqb j k) 1000000 (weight S (apart o k j) - 2)

own_high : (a b B : ℕ) → b ≡ B → 1000000 * a * (1 * b) ≤ 1 * a * (1000000 * B)
own_high a b B e = let z = ap (λ (n : ℕ). 1000000 * a * n) e in omega arith

other_high : (u S hn hd v a b B : ℕ) → b ≡ B → v * (S * hd) ≤ u * hn * 1000000 → v * a * (S * hd * b) ≤ u * hn * a * (1000000 * B)
other_high u S hn hd v a b B e h =
    let z = ap (λ (n : ℕ). v * a * (S * hd * n)) e in
    let y = mul-le-mul_right (a * B) h in
    omega arith

-- all the slack together is less than a thousandth of the load and 1 N
final : (E M R Q qb B T n m Φ : ℕ) → 0 < B → 1000000 * E ≤ M + 2 * Φ + 1000000 * n → 13000 * M * B ≤ 13000 * R + (12000000 * (1000 * T) + 156000000000 * m) * B → R * qb ≤ Q * (1000000 * B) → Φ ≤ 1001 * T + 12 * m → n ≤ 12 → m ≤ 16 → E * qb ≤ Q + (T + 1000) * qb
final E M R Q qb B T n m Φ pos e near read all few bolts =
    let a = mul-le-mul_right (13000 * B * qb) e in
    let b = mul-le-mul_right qb near in
    let c = mul-le-mul_left 13000 read in
    let f : (12000000 * (1000 * T) + 156000000000 * m) + 13000 * (2 * Φ + 1000000 * n) ≤ 13000000000 * (T + 1000) = omega arith in
    let g = mul-le-mul_right (B * qb) f in
    le_of_mul-le-mul_right {k = 13000000000 * B} (omega arith) (omega arith)

module _ (S : ℕ) (pos : 0 < S) (c : Case) (d : Direction) (k : ℕ) (valid : Valid c) where
  weights_le : (j : ℕ) (t : Bool) → cond t 1000000 (weight S (apart c.opening k j)) ≤ cond t 1000000 (weight S (apart c.opening k j) - 2) + 2
  weights_le j true = omega arith
  weights_le j false = omega arith

  lighter_small : (j : ℕ) (t : Bool) → cond t 1000000 (weight S (apart c.opening k j) - 2) ≤ 1000000
  lighter_small j true = omega arith
  lighter_small j false = omega (arith, weight_small S (apart c.opening k j) pos)

  high_at : (h : HighChoice S pos c k) (j : ℕ) (t : Bool) → eqb j k ≡ t → (let f : Fraction = force_read (high_length h.ends) (low_length h.ends) c d j in let w : Fraction = times (own_or t (high_weight (h.weights j))) f in cond t 1000000 (weight S (apart c.opening k j) - 2) * f.above * w.below ≤ w.above * (1000000 * common (low_length h.ends) (high_length h.ends) c.opening d c.bolts))
  high_at h j true e =
      let x = low_length h.ends in
      let y = high_length h.ends in
      let f = force_read y x c d j in
      omega (arith, own_high f.above f.below (common x y c.opening d c.bolts) (below_same x y c.opening d j c.bolts))
  high_at h j false e =
      let x = low_length h.ends in
      let y = high_length h.ends in
      let f = force_read y x c d j in
      let w = h.weights j in
      omega (arith, other_high (S - apart c.opening k j) S w.root.above w.root.below (weight S (apart c.opening k j) - 2) f.above f.below (common x y c.opening d c.bolts) (below_same x y c.opening d j c.bolts) (weight_near S (apart c.opening k j) pos w))

  pub effect_near : (h : HighChoice S pos c k) → AtMost (whole (group_effect S c d k)) (plus (high_effect h d) (whole (total_load d c.bolts + 1000)))
  effect_near h =
      let o = c.opening in
      let n : ℕ = o.anchors in
      let x = low_length h.ends in
      let y = high_length h.ends in
      let i = o.inertia in
      let s = o.spacing in
      let r : lengths.InRange i s = record { stiff = valid.opened.stiff; slender = valid.opened.slender; wide = valid.opened.wide; narrow = valid.opened.narrow } in
      let L : ℕ = length_of o in
      let v : ℕ → ℕ = lighter S o k in
      let F : ℕ → ℕ = force c d in
      let B : ℕ = common x y o d c.bolts in
      let M : ℕ = weighted v F n in
      let rounded = parts_le (weight_on S o k) F (range_with_len 0 n) in
      let eased = lighter_le (weight_on S o k) v F (range_with_len 0 n) (λ j. weights_le j (eqb j k)) in
      let near = forces_near v (λ j. lighter_small j (eqb j k)) L o d x y valid.opened (length_past_spacing i s r) (length_at_least i s r) (length_not_below i s r h.ends) (length_not_above i s r h.ends) c.bolts (positions _ c.bolts valid.sound) h.beyond in
      let Q : Fraction = high_effect h d in
      let read = over_totals (high_part h d) (λ j. v j * (high_read x y o d c.bolts j).above) (1000000 * B) (range_with_len 0 n) (all_anchors (λ j. v j * (high_read x y o d c.bolts j).above * (high_part h d j).below ≤ (high_part h d j).above * (1000000 * B)) n (λ j here. high_at h j (eqb j k) refl)) in
      let all = forces_sum c d valid in
      let long : length (range_with_len 0 n) ≡ n = length-range_with_len 0 n in
      let done = final (group_effect S c d k) M (weighted v (λ j. (high_read x y o d c.bolts j).above) n) Q.above Q.below B (total_load d c.bolts) n (length c.bolts) (sum_by F (range_with_len 0 n)) (high_read x y o d c.bolts 0).proper (omega (arith, rounded, eased, long)) near read all valid.opened.twelve valid.few in
      omega (arith, done)
