use Rattle.std.proofs.Common.{◌≡◌, ◌++◌, drop, string_bytes}
use Rattle.std.specs.List.{flat_map}
use Rattle.job.specs.Printed.{outcome_text}
use Rattle.job.proofs.printing.print.Given as goal

abbrev pub invariant-loop-outcome : goal.invariant-loop-outcome
invariant-loop-outcome l =
    string_bytes l.out ++ flat_map outcome_text (drop l.outcome-index l.outcomes) ≡ flat_map outcome_text l.outcomes
