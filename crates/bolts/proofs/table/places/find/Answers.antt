use Rattle.std.proofs.Common.{rules}
use Rattle.std.proofs.lemmas.List.Sorted.{answers_always}
use Rattle.bolts.proofs.Lifted.{searched}
use Rattle.bolts.proofs.table.places.find.Goals as goal

pub returns : goal.returns
returns c =
    let facts = c.binary_search_by_key.ensures in
    let by_position = facts.position (λ b. b.position) (answers_always _ _ _ (λ f a r g called. search rules)) in
    let there = searched c.args.bolts.now c.requires c.args.position _ facts.bound by_position in
    search rules
