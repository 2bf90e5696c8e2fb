-- The influence length as defined: its steps, its bounds, and the exact length that it encloses.
use Rattle.std.proofs.Common.{ℕ, ◌+◌, ◌*◌, ◌^◌, ◌≤◌, refl, arith}
use Rattle.fractions.proofs.Roots.{square_below}
use Rattle.roots.specs.Extremes.{Greatest}
use Rattle.roots.specs.Roots.{fourth}
use Rattle.roots.proofs.Roots.{square_root_is, fifth_root_is}
use Rattle.influence.specs.Lengths.{InRange, StepsTo, half_root_of, quarter_root_of, twentieth_root_of, spacing_root_of, influence_length}
use Rattle.influence.specs.Exact.{Ends, NotAbove, NotBelow}
use Rattle.influence.proofs.Sizes.{spacing_within, length_least, length_most}
use Rattle.influence.proofs.Enclosed.{steps_not_above, steps_not_below, steps_ends}

module _ (i s : ℕ) (r : InRange i s) where
  half_root_is : Greatest (λ n. n * n ≤ i * 10 ^ 12) (half_root_of i)
  half_root_is = square_root_is (i * 10 ^ 12) (omega (arith, r.slender))

  half_root_small : half_root_of i ≤ 10 ^ 9
  half_root_small = square_below _ (10 ^ 9) (omega (arith, half_root_is.fits, r.slender))

  quarter_root_is : Greatest (λ n. n * n ≤ half_root_of i * 10 ^ 6) (quarter_root_of i)
  quarter_root_is = square_root_is (half_root_of i * 10 ^ 6) (omega (arith, half_root_small))

  quarter_root_small : quarter_root_of i ≤ 10 ^ 8
  quarter_root_small = square_below _ (10 ^ 8) (omega (arith, quarter_root_is.fits, half_root_small))

  twentieth_root_is : Greatest (λ n. fourth n * n ≤ quarter_root_of i * 10 ^ 7) (twentieth_root_of i)
  twentieth_root_is = fifth_root_is (quarter_root_of i * 10 ^ 7) (omega (arith, quarter_root_small))

  spacing_root_is : Greatest (λ n. n * n ≤ s * 10 ^ 9) (spacing_root_of s)
  spacing_root_is = square_root_is (s * 10 ^ 9) (omega (arith, r.narrow))

  pub length_steps : StepsTo i s (influence_length i s)
  unfolding influence_length
  length_steps = record { a_is = half_root_is; b_is = quarter_root_is; c_is = twentieth_root_is; q_is = spacing_root_is; length = refl }

  pub length_ends : Ends i s
  length_ends = steps_ends _ _ _ _ _ _ _ length_steps (omega (arith, r.stiff))

  pub length_not_above : NotAbove i s (influence_length i s)
  length_not_above = steps_not_above _ _ _ _ _ _ _ length_steps

  pub length_not_below : NotBelow i s (influence_length i s + 5)
  length_not_below = steps_not_below _ _ _ _ _ _ _ length_steps r

  pub length_at_least : 130000 ≤ influence_length i s
  length_at_least = length_least _ _ _ _ _ _ _ length_steps r

  pub length_past_spacing : 100 * s ≤ influence_length i s
  length_past_spacing = spacing_within _ _ _ _ _ _ _ length_steps r

  pub length_at_most : influence_length i s ≤ 1000000
  length_at_most = length_most _ _ _ _ _ _ _ length_steps r
