use Rattle.std.proofs.Common.{◌≡◌, ℕ, ◌+◌, ◌*◌, ◌≤◌, sym, subst}
use Rattle.influence.specs.Lengths.{StepsTo, influence_length}
use Rattle.influence.specs.Exact.{NotAbove, NotBelow}
use Rattle.influence.proofs.Lengths.{length_steps, length_ends, length_not_above, length_not_below, length_at_least, length_past_spacing, length_at_most}
use Rattle.influence.proofs.Channel.influence_length.Goals as goal

pub returns : goal.returns
unfolding influence_length
returns c =
    let i = c.args.self.now.inertia in
    let s = c.args.self.now.spacing in
    let r = c.args.self.now.in_range in
    let is : influence_length i s ≡ c.rounded_length.result = sym c.rounded_length.ensures in
    record {
      value = sym is;
      steps = subst (λ (l : ℕ). StepsTo i s l) is (length_steps i s r);
      ends = length_ends i s r;
      low = subst (λ (l : ℕ). NotAbove i s l) is (length_not_above i s r);
      high = subst (λ (l : ℕ). NotBelow i s (l + 5)) is (length_not_below i s r);
      least = subst (λ (l : ℕ). 130000 ≤ l) is (length_at_least i s r);
      wider = subst (λ (l : ℕ). 100 * s ≤ l) is (length_past_spacing i s r);
      most = subst (λ (l : ℕ). l ≤ 1000000) is (length_at_most i s r);
    }
