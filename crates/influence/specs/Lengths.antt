-- The influence length in micrometres, of a moment of inertia i in mm^4 and a spacing s in tenths of a millimetre.
--   InRange i s             the numbers that channels have
--   half_root_of i          the square root of i, in millionths
--   quarter_root_of i       the square root of that, in millionths
--   twentieth_root_of i     the fifth root of that, in hundred-thousandths
--   spacing_root_of s       the square root of s tenths, in hundred-thousandths
--   influence_length i s    13,000 times the product of the last two
--   Steps i s a b c q l     each letter is the greatest number that fits
use Rattle.std.specs.Prelude.{◌≡◌, ℕ, ◌*◌, ◌/◌, ◌^◌, ◌≤◌}
use Rattle.roots.specs.Extremes.{Greatest}
use Rattle.roots.specs.Roots.{square_root_of, fourth, fifth_root_of}

pub record InRange (i s : ℕ) : Type 0 where
  pub stiff : 4000 ≤ i
  pub slender : i ≤ 200000
  pub wide : 500 ≤ s
  pub narrow : s ≤ 2500

abbrev pub half_root_of : ℕ → ℕ
half_root_of i = square_root_of (i * 10 ^ 12)

abbrev pub quarter_root_of : ℕ → ℕ
quarter_root_of i = square_root_of (half_root_of i * 10 ^ 6)

abbrev pub twentieth_root_of : ℕ → ℕ
twentieth_root_of i = fifth_root_of (quarter_root_of i * 10 ^ 7)

abbrev pub spacing_root_of : ℕ → ℕ
spacing_root_of s = square_root_of (s * 10 ^ 9)

unfoldable pub influence_length : ℕ → ℕ → ℕ
influence_length i s = 13 * twentieth_root_of i * spacing_root_of s / 10 ^ 7

pub record Steps (i s a b c q l : ℕ) : Type 0 where
  pub a_is : Greatest (λ n. n * n ≤ i * 10 ^ 12) a
  pub b_is : Greatest (λ n. n * n ≤ a * 10 ^ 6) b
  pub c_is : Greatest (λ n. fourth n * n ≤ b * 10 ^ 7) c
  pub q_is : Greatest (λ n. n * n ≤ s * 10 ^ 9) q
  pub length : l ≡ 13 * c * q / 10 ^ 7

-- the steps of the definition, up to a length l
abbrev pub StepsTo : ℕ → ℕ → ℕ → Type 0
StepsTo i s l = Steps i s (half_root_of i) (quarter_root_of i) (twentieth_root_of i) (spacing_root_of s) l
