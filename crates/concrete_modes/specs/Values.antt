-- The values of both editions against their readings.
use Rattle.std.proofs.Common.{ℕ, ◌+◌, ◌*◌, ◌^◌, ◌≤◌, refl, arith, lit<}
use Rattle.fractions.specs.Fractions.{Fraction, AtMost, PowerAtMost, PowerAtLeast, whole, times}
use Rattle.fractions.proofs.Powers.{pow_two, pow_three}
use Rattle.fractions.proofs.Roots.{root_below, root_above}
use Rattle.roots.specs.Extremes.{Greatest}
use Rattle.roots.proofs.Extremes.{greatest_next}
use Rattle.roots.proofs.Roots.{square_root_is, cube_root_is}
use Rattle.bolts.specs.Loads.{total_load}
use Rattle.bolts.specs.declared.bolt.Direction.TheVariants.{Shear}
use Rattle.forces.specs.Cases.{Case, Valid}
use Rattle.failure.specs.Meanings.{LawfulAt}
use Rattle.groups.specs.declared.spacing.CharacteristicSpacing.{CharacteristicSpacing}
use Rattle.steel_modes.specs.declared.design.PartialFactor.{PartialFactor}
use Rattle.failure.proofs.Quotients.{equal_above}
use Rattle.concrete.specs.Edge.{edge_first, edge_second, edge_square, strength_root, distance_root, LowRoots, HighRoots, second_read}
use Rattle.concrete.proofs.Edge.{second_safe, second_close}
use Rattle.concrete_modes.specs.Edges.{first_meaning, second_meaning}
use Rattle.concrete_modes.specs.declared.edge.EdgeBasis.{EdgeBasis}
use Rattle.concrete_modes.specs.EdgeLemmas.{nearly, same_times, edge_lawful}
use Rattle.concrete_modes.specs.Sizes.{strength_le, distance_le, four_le, square_le, root_le, scaled_le}

low_roots : (f c : ℕ) → LowRoots f c
low_roots f c = record { strength = whole 0; distance = whole 0; strength_low = omega arith; distance_low = omega arith }

high_roots : (f c : ℕ) → HighRoots f c
high_roots f c =
    record {
      strength = whole (f + 1);
      distance = whole (c + 1);
      strength_high = rw (pow_two (f + 1)) (omega arith);
      distance_high = rw (pow_three (c + 1)) (omega arith);
    }

module _ (S : CharacteristicSpacing) (b : EdgeBasis) (f : PartialFactor) (c : Case) (v : Valid c) (k_le : b.k ≤ 110) (least-strength : 12 ≤ b.strength) (most-strength : b.strength ≤ 75) (least-distance : 250 ≤ b.distance) (most-distance : b.distance ≤ 5000) (p_le : b.p ≤ 140) where
  g_is : Greatest (λ n. n * n ≤ b.strength * 10 ^ 12) (strength_root b.strength)
  g_is = square_root_is (b.strength * 10 ^ 12) (omega arith)

  t_is : Greatest (λ n. n * n * n ≤ b.distance * 10 ^ 14) (distance_root b.distance)
  t_is = cube_root_is (b.distance * 10 ^ 14) (omega arith)

  second_small : edge_second b.k b.strength b.distance ≤ 1100000000
  second_small =
      let g = strength_root b.strength in
      let t = distance_root b.distance in
      let m = four_le b.k g b.distance t k_le (strength_le g b.strength most-strength g_is.fits) most-distance (distance_le t b.distance most-distance t_is.fits) in
      omega (arith, m)

  pub second_lawful : (i : ℕ) → LawfulAt (total_load Shear c.bolts) (second_meaning S b f c) i
  second_lawful i =
      let k = b.k in
      let s = b.strength in
      let e = b.distance in
      let x = edge_second k s e in
      let lo = low_roots s e in
      let hi = high_roots s e in
      edge_lawful S x b.p f _ _ c v (scaled_le x b.p second_small p_le) p_le
      (second_read k e lo.strength lo.distance, (lo, refl))
      (second_read k e hi.strength hi.distance, (hi, refl))
      (λ r h. equal_above r (second_read k e h.0.strength h.0.distance) (whole x) h.1 (second_safe k s e (strength_root s) (distance_root e) x g_is t_is refl h.0))
      (λ r h. same_times (second_read k e h.0.strength h.0.distance) r (whole (x + 1)) h.1 (second_close k s e (strength_root s) (distance_root e) x g_is t_is refl least-strength least-distance h.0))
      i

module _ (N x : ℕ) (is : Greatest (λ n. n * n ≤ N) x) where
  first_safe : (r : Fraction) → PowerAtLeast 2 r (whole N) → AtMost (whole x) r
  first_safe r h =
      let fits : x ^ 2 * 1 ≤ N * 1 ^ 2 = rw (pow_two x) (omega (arith, is.fits)) in
      let k : x * r.below ≤ r.above * 1 = root_below 2 N 1 x 1 r.above r.below (lit< tt) (lit< tt) fits (omega (arith, h)) in
      omega (arith, k)

  first_close : (r : Fraction) → PowerAtMost 2 r (whole N) → AtMost (times r nearly) (whole (x + 1))
  first_close r h =
      let next : N * 1 ^ 2 ≤ (x + 1) ^ 2 * 1 = rw (pow_two (x + 1)) (omega (arith, greatest_next (λ n. n * n ≤ N) x is)) in
      let k : r.above * 1 ≤ (x + 1) * r.below = root_above 2 N 1 (x + 1) 1 r.above r.below (lit< tt) (lit< tt) next (omega (arith, h)) in
      omega (arith, k)

low_first : (N : ℕ) → PowerAtMost 2 (whole 0) (whole N)
low_first N = omega arith

high_first : (N : ℕ) → PowerAtLeast 2 (whole (N + 1)) (whole N)
high_first N = rw (pow_two (N + 1)) (omega arith)

pub first_lawful : (S : CharacteristicSpacing) (b : EdgeBasis) (f : PartialFactor) (c : Case) → Valid c → b.k ≤ 110 → b.strength ≤ 75 → b.distance ≤ 5000 → b.p ≤ 140 → (i : ℕ) → LawfulAt (total_load Shear c.bolts) (first_meaning S b f c) i
first_lawful S b f c v k_le s-le d-le p_le i =
    let N = edge_square b.k b.strength b.distance in
    let x = edge_first b.k b.strength b.distance in
    let small = square_le b.k b.strength b.distance k_le s-le d-le in
    let is : Greatest (λ n. n * n ≤ N) x = square_root_is N (omega (arith, small)) in
    edge_lawful S x b.p f _ _ c v (scaled_le x b.p (root_le x N small is.fits) p_le) p_le (whole 0, low_first N) (whole (N + 1), high_first N) (first_safe N x is) (first_close N x is) i
