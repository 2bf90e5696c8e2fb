use Rattle.bolts.proofs.Gaps.{nearest_of}
use Rattle.bolts.proofs.table.BoltTable.nearest.Goals as goal

pub returns : goal.returns
returns c =
    nearest_of _ c.args.self.now.spaced c.args.k _ _ _ c.gap_before.ensures c.gap_after.ensures c.nearer.ensures
