use Rattle.std.proofs.Common.{◌≡◌, ◌++◌, string_bytes}
use Rattle.std.specs.Slice.Iter.{chunks_exact_rest, chunks_exact_size}
use Rattle.certificate.specs.Content.{entries}
use Rattle.certificate_text.specs.Printed.{list_text}
use Rattle.certificate_text.proofs.printing.write_list.Given as goal

abbrev pub invariant-loop-chunk : goal.invariant-loop-chunk
invariant-loop-chunk l = record {
  size : chunks_exact_size l.chunk-iterator ≡ 4;
  left : string_bytes l.out ++ list_text l.name (entries (chunks_exact_rest l.chunk-iterator)) ≡ string_bytes l.initial.out ++ list_text l.name (entries l.list);
}
