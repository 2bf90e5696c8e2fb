use Rattle.std.proofs.Common.{◌≡◌, ◌++◌, map, length, string_bytes}
use Rattle.std.specs.Slice.Iter.{iter_rest}
use Rattle.std.specs.Iterator.Adapters.{zip_first, zip_second}
use Rattle.certificate_text.specs.Names.{fields}
use Rattle.certificate_text.specs.Fields.{field_of}
use Rattle.certificate_text.specs.Printed.{fields_text}
use Rattle.certificate_text.proofs.printing.write_fields.Given as goal

abbrev pub invariant-loop-field : goal.invariant-loop-field
invariant-loop-field l = record {
  even : length (iter_rest (zip_first l.field-iterator)) ≡ length (iter_rest (zip_second l.field-iterator));
  left : string_bytes l.out ++ fields_text (map field_of (iter_rest (zip_first l.field-iterator))) (iter_rest (zip_second l.field-iterator)) ≡ string_bytes l.initial.out ++ fields_text fields l.numbers;
}
