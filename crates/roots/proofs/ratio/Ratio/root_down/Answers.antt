use Rattle.std.proofs.Common.{arith}
use Rattle.roots.proofs.Roots.{root_down_within}
use Rattle.roots.proofs.ratio.Ratio.root_down.Goals as goal

pub returns : goal.returns
returns c =
    let x = c.args.self.now in
    record {
      is = c.last_at_most.ensures.is;
      value = c.last_at_most.ensures.value;
      within = root_down_within x.a x.b (omega arith) (omega arith) _ c.last_at_most.ensures.is;
    }
