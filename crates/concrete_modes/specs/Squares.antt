-- How great the numbers of a cone can be.
use Rattle.std.proofs.Common.{◌≡◌, ℕ, ◌-◌, ◌*◌, ◌≤◌, true, mul-le-mul, arith}
use Rattle.std.proofs.lemmas.Bool.Decides.{nat_tests}
use Rattle.concrete.specs.Cone.{cone_square}
use Rattle.concrete_modes.specs.Cones.{cone_well}
use Rattle.concrete_modes.specs.declared.cone.ConeBasis.{ConeBasis}

pub factor_le : (k f : ℕ) → k ≤ 130 → f ≤ 75 → k * k * f ≤ 1267500
factor_le k f a b = omega (arith, mul-le-mul (mul-le-mul a a) b)

pub depth_le : (h : ℕ) → h ≤ 2500 → h * h * h ≤ 15625000000
depth_le h a = omega (arith, mul-le-mul (mul-le-mul a a) a)

pub multiple_le : (m : ℕ) → m ≤ 20 → m * m ≤ 400
multiple_le m a = omega (arith, mul-le-mul a a)

pub product_le : (x y : ℕ) → x ≤ 1267500 → y ≤ 15625000000 → x * y ≤ 19804687500000000
product_le x y a b = omega (arith, mul-le-mul a b)

pub cubes_le : (k f h : ℕ) → k ≤ 130 → f ≤ 75 → h ≤ 2500 → k * k * f * (h * h * h) ≤ 19804687500000000
cubes_le k f h a b c = product_le (k * k * f) (h * h * h) (factor_le k f a b) (depth_le h c)

pub square_le : (k f h m : ℕ) → k ≤ 130 → f ≤ 75 → h ≤ 2500 → m ≤ 20 → cone_square k f h m ≤ 7921875000000000000
square_le k f h m a b c d = omega (arith, mul-le-mul (cubes_le k f h a b c) (multiple_le m d))

pub wide_le : (h : ℕ) → 400 ≤ h → h ≤ 2500 → h * (50400 - 13 * h) ≤ 113000000
wide_le h a b =
    let y : 50400 - 13 * h ≤ 45200 = omega arith in
    omega (arith, mul-le-mul b y)

-- the numbers of a basis in range
module _ (b : ConeBasis) (r : cone_well b.k b.strength b.depth b.multiple ≡ true) where
  pub k_most : b.k ≤ 130
  k_most = grind (arith, nat_tests)

  pub strength_most : b.strength ≤ 75
  strength_most = grind (arith, nat_tests)

  pub depth_most : b.depth ≤ 2500
  depth_most = grind (arith, nat_tests)

  pub multiple_most : b.multiple ≤ 20
  multiple_most = grind (arith, nat_tests)

  pub product_most : b.k * b.k * b.strength * (b.depth * b.depth * b.depth) ≤ 19804687500000000
  product_most = cubes_le b.k b.strength b.depth k_most strength_most depth_most

  pub square_most : cone_square b.k b.strength b.depth b.multiple ≤ 7921875000000000000
  square_most = square_le b.k b.strength b.depth b.multiple k_most strength_most depth_most multiple_most
