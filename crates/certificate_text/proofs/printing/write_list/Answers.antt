use Rattle.std.proofs.Common.{◌++◌, string_bytes, ap, ◌∙◌}
use Rattle.certificate.proofs.EntryLists.{entries_first}
use Rattle.certificate.specs.Content.{entries}
use Rattle.certificate.specs.declared.fields.StrengthFactor.{StrengthFactor}
use Rattle.certificate_text.specs.Printed.{entry_text}
use Rattle.certificate_text.proofs.PrintRuns.{line_more}
use Rattle.certificate_text.proofs.printing.write_list.Goals as goal

pub loop-chunk-preserved : goal.loop-chunk-preserved
loop-chunk-preserved c =
    let s = c.in-Some.ensures.steps in
    let e = ap entries s.1.0 ∙ entries_first c.in-Some.chunk.now _ (s.1.1 ∙ c.loop-chunk.invariant.size) in
    let l = rw e at c.loop-chunk.invariant.left in
    let w = c.in_ok-write_entry.ensures ∙ ap (λ (x : StrengthFactor). string_bytes c.loop-chunk.out ++ entry_text c.args.name.now x) c.entry_in.ensures in
    record { size = s.0 ∙ c.loop-chunk.invariant.size; left = line_more _ _ _ _ _ w l }
