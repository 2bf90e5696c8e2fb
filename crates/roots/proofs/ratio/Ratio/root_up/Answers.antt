use Rattle.std.proofs.Common.{◌+◌, ◌*◌, ◌^◌, ◌<◌, ◌≤◌, arith}
use Rattle.roots.specs.Extremes.{Greatest, Least}
use Rattle.roots.proofs.Extremes.{least_after, least_one}
use Rattle.roots.specs.Rises.{scaled_square_rises}
use Rattle.roots.proofs.Roots.{root_up_is, root_up_within}
use Rattle.roots.proofs.ratio.Ratio.root_up.Goals as goal

pub returns : goal.returns
returns c =
    let a = c.args.self.now.a in
    let b = c.args.self.now.b in
    let r = c.last_below.result in
    let g = c.last_below.ensures.is in
    let under : Greatest (λ n. n * n * b < a * 10 ^ 12) r =
    record { fits = omega (arith, g.fits); most = λ n h. g.most n (omega arith) } in
    let is : Least (λ n. a * 10 ^ 12 ≤ n * n * b) (r + 1) =
    least_after (a * 10 ^ 12) (λ n. n * n * b) (scaled_square_rises b) r under in
    record {
      is = is;
      value = least_one _ _ _ is (root_up_is a b (omega arith) (omega arith));
      within = root_up_within a b (omega arith) (omega arith) (r + 1) is;
    }
