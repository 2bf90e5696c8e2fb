-- The rounded influence length against the exact one.
use Rattle.std.proofs.Common.{ℕ, ◌+◌, ◌*◌, ◌^◌, ◌≤◌, mul-le-mul_right, mul-le-mul, arith, lit<}
use Rattle.fractions.specs.Fractions.{over}
use Rattle.fractions.proofs.Powers.{pow_two}
use Rattle.fractions.proofs.Roots.{root_below, root_above}
use Rattle.influence.specs.Lengths.{Steps, InRange}
use Rattle.influence.specs.Exact.{Ends, NotAbove, NotBelow}
use Rattle.influence.proofs.Sizes.{q_next, c_twenty, c_twenty_up, c_small, q_small}

module _ (i s a b c q l : ℕ) (t : Steps i s a b c q l) where
  pub steps_not_above : NotAbove i s l
  steps_not_above e =
      let x = e.inertia_high in
      let y = e.spacing_high in
      let u : c * x.below ≤ x.above * 10 ^ 5 =
      root_below 20 i 1 c (10 ^ 5) x.above x.below (lit< tt) (lit< tt) (c_twenty i s a b c q l t) e.inertia_root.not_below in
      let v : q * y.below ≤ y.above * 10 ^ 5 =
      root_below 2 s 10 q (10 ^ 5) y.above y.below (lit< tt) (lit< tt) (rw (pow_two q) (omega (arith, t.q_is.fits))) e.spacing_root.not_below in
      let w : l * 10 ^ 7 ≤ 13 * (c * q) = omega (arith, t.length) in
      omega (arith, mul-le-mul u v, mul-le-mul_right (x.below * y.below) w)

  pub steps_not_below : InRange i s → NotBelow i s (l + 5)
  steps_not_below r e =
      let x = e.inertia_low in
      let y = e.spacing_low in
      let some : 1 ≤ i = omega (arith, r.stiff) in
      let u : x.above * (2 * 10 ^ 5) ≤ (2 * (c + 1) + 1) * x.below =
      root_above 20 i 1 (2 * (c + 1) + 1) (2 * 10 ^ 5) x.above x.below (lit< tt) (lit< tt) (c_twenty_up i s a b c q l t some) e.inertia_root.not_above in
      let v : y.above * 10 ^ 5 ≤ (q + 1) * y.below =
      root_above 2 s 10 (q + 1) (10 ^ 5) y.above y.below (lit< tt) (lit< tt) (rw (pow_two (q + 1)) (omega (arith, q_next i s a b c q l t))) e.spacing_root.not_above in
      let w : 13 * ((2 * c + 3) * (q + 1)) ≤ 20000000 * (l + 5) =
      omega (arith, t.length, c_small i s a b c q l t r.slender, q_small i s a b c q l t r.narrow) in
      omega (arith, mul-le-mul u v, mul-le-mul_right (x.below * y.below) w)

  -- the steps themselves give ends of the two roots
  pub steps_ends : 1 ≤ i → Ends i s
  steps_ends some =
      record {
        inertia_low = over c (10 ^ 5) (lit< tt);
        inertia_high = over (2 * (c + 1) + 1) (2 * 10 ^ 5) (lit< tt);
        spacing_low = over q (10 ^ 5) (lit< tt);
        spacing_high = over (q + 1) (10 ^ 5) (lit< tt);
        inertia_root = record { not_above = c_twenty i s a b c q l t; not_below = c_twenty_up i s a b c q l t some };
        spacing_root = record {
          not_above = rw (pow_two q) (omega (arith, t.q_is.fits));
          not_below = rw (pow_two (q + 1)) (omega (arith, q_next i s a b c q l t));
        };
      }
