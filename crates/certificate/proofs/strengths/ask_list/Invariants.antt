use Rattle.std.proofs.Common.{◌≡◌, ◌/◌, length, drop}
use Rattle.std.specs.List.{range_with_len, flat_map}
use Rattle.certificate.specs.Asked.{first_no}
use Rattle.certificate.specs.Strengths.{entry_asked, list_asked}
use Rattle.certificate.proofs.strengths.ask_list.Given as goal

abbrev pub invariant-loop-k : goal.invariant-loop-k
invariant-loop-k l =
    first_no (flat_map (entry_asked l.list.place l.list.bytes.now) (drop l.k (range_with_len 0 (length l.list.bytes.now / 4)))) ≡ first_no (list_asked l.list.place l.list.bytes.now)
