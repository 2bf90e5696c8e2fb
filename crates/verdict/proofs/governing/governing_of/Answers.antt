use Rattle.std.proofs.Common.{◌≡◌, ◌∙◌, ap, arith}
use Rattle.verdict.specs.Governing.{of_lines, governing}
use Rattle.verdict.specs.Rows.{row_lines}
use Rattle.verdict.proofs.governing.governing_of.Goals as goal

pub returns : goal.returns
unfolding governing
returns c =
    let end : c.loop-k.k ≡ 13 = omega arith in
    c.loop-k.invariant ∙ ap (of_lines (row_lines c.args.rows.now)) end
