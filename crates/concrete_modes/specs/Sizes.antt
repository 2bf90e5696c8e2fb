-- How great the numbers of an edge can be.
use Rattle.std.proofs.Common.{◌≡◌, ℕ, ◌*◌, ◌^◌, ◌≤◌, true, mul-le-mul, arith}
use Rattle.std.proofs.lemmas.Bool.Decides.{nat_tests}
use Rattle.fractions.proofs.Roots.{square_below, cube_below}
use Rattle.concrete.specs.Edge.{edge_square}
use Rattle.concrete_modes.specs.Edges.{well_of}
use Rattle.concrete_modes.specs.declared.edge.EdgeBasis.{EdgeBasis}

pub strength_le : (g f : ℕ) → f ≤ 75 → g * g ≤ f * 10 ^ 12 → g ≤ 9000000
strength_le g f small h = square_below g 9000000 (omega arith)

pub distance_le : (t c : ℕ) → c ≤ 5000 → t * t * t ≤ c * 10 ^ 14 → t ≤ 800000
distance_le t c small h = cube_below t 800000 (omega arith)

pub three_le : (k g c : ℕ) → k ≤ 110 → g ≤ 9000000 → c ≤ 5000 → k * g * c ≤ 4950000000000
three_le k g c a b d = omega (arith, mul-le-mul (mul-le-mul a b) d)

pub four_le : (k g c t : ℕ) → k ≤ 110 → g ≤ 9000000 → c ≤ 5000 → t ≤ 800000 → k * g * c * t ≤ 3960000000000000000
four_le k g c t a b d e = omega (arith, mul-le-mul (three_le k g c a b d) e)

pub cubed_le : (k f c : ℕ) → k ≤ 110 → f ≤ 75 → c ≤ 5000 → k * k * f * (c * c * c) ≤ 113437500000000000
cubed_le k f c a b d =
    omega (arith, mul-le-mul (mul-le-mul (mul-le-mul a a) b) (mul-le-mul (mul-le-mul d d) d))

pub square_le : (k f c : ℕ) → k ≤ 110 → f ≤ 75 → c ≤ 5000 → edge_square k f c ≤ 1134375000000000000
square_le k f c a b d = omega (arith, cubed_le k f c a b d)

pub root_le : (x N : ℕ) → N ≤ 1134375000000000000 → x * x ≤ N → x ≤ 1100000000
root_le x N small h = square_below x 1100000000 (omega arith)

pub scaled_le : (x p : ℕ) → x ≤ 1100000000 → p ≤ 140 → x * p ≤ 200000000000
scaled_le x p a b = omega (arith, mul-le-mul a b)

-- the numbers of a basis in range
module _ (b : EdgeBasis) (r : well_of b ≡ true) where
  pub k_most : b.k ≤ 110
  k_most = grind (arith, nat_tests)

  pub strength_most : b.strength ≤ 75
  strength_most = grind (arith, nat_tests)

  pub strength_least : 12 ≤ b.strength
  strength_least = grind (arith, nat_tests)

  pub distance_most : b.distance ≤ 5000
  distance_most = grind (arith, nat_tests)

  pub distance_least : 250 ≤ b.distance
  distance_least = grind (arith, nat_tests)

  pub p_most : b.p ≤ 140
  p_most = grind (arith, nat_tests)

  pub four_most : (g t : ℕ) → g ≤ 9000000 → t ≤ 800000 → b.k * g * b.distance * t ≤ 3960000000000000000
  four_most g t a d = four_le b.k g b.distance t k_most a distance_most d

  pub cubed_most : b.k * b.k * b.strength * (b.distance * b.distance * b.distance) ≤ 113437500000000000
  cubed_most = cubed_le b.k b.strength b.distance k_most strength_most distance_most
