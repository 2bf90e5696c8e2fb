use Rattle.std.proofs.Common.{◌≡◌}
use Rattle.verdict.specs.Governing.{of_lines}
use Rattle.verdict.specs.Rows.{row_lines}
use Rattle.verdict.proofs.governing.governing_of.Given as goal

abbrev pub invariant-loop-k : goal.invariant-loop-k
invariant-loop-k l = l.best ≡ of_lines (row_lines l.rows) l.k
