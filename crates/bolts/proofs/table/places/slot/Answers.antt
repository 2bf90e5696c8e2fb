use Rattle.std.proofs.Common.{ltb, ltb-true, ltb-false, le_refl, arith, rules}
use Rattle.std.proofs.lemmas.List.Sorted.{IsPartitionPoint-from_clause, IsPartitionedBy-ltb}
use Rattle.bolts.specs.Bolts.{no_bolt}
use Rattle.bolts.proofs.Rows.{rising}
use Rattle.bolts.proofs.table.places.slot.Goals as goal

pub returns : goal.returns
returns c =
    let xs = c.args.bolts.now in
    let parted = IsPartitionedBy-ltb (λ b. b.position) xs c.args.position (rising xs c.requires) in
    let point = IsPartitionPoint-from_clause (λ b. ltb b.position c.args.position) xs _ c.partition_point.ensures.partitioned parted (λ a r q k. search rules) in
    record {
      within = c.partition_point.ensures.bound;
      before = λ k h. ltb-true _ _ (point.0 k no_bolt (omega arith) h);
      stop = λ h. ltb-false _ _ (point.1 _ no_bolt (le_refl _) h);
    }
