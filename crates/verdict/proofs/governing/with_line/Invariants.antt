use Rattle.std.proofs.Common.{◌≡◌}
use Rattle.verdict.specs.Governing.{with_places}
use Rattle.verdict.specs.Rows.{row_line}
use Rattle.verdict.proofs.governing.with_line.Given as goal

abbrev pub invariant-loop-i : goal.invariant-loop-i
invariant-loop-i l = l.best ≡ with_places l.initial.best l.line (row_line l.row) l.i
