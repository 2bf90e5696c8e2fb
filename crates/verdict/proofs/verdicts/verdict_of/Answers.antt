use Rattle.std.proofs.Common.{Option, sym, subst}
use Rattle.verdict.specs.Governing.{Governs}
use Rattle.verdict.specs.Lines.{line_count}
use Rattle.verdict.specs.Rows.{row_lines}
use Rattle.verdict.specs.declared.answer.Governing.{Governing}
use Rattle.verdict.proofs.Governed.{governed}
use Rattle.verdict.proofs.verdicts.verdict_of.Goals as goal

pub returns-clause-governs : goal.returns-clause-governs
returns-clause-governs c =
    let ms = row_lines c.args.rows.now in
    subst (λ (g : Option Governing). Governs ms line_count g) (sym c.governing_of.ensures) (governed ms)
