use Rattle.std.proofs.Common.{◌<◌, length, refl, ap, ◌∙◌, rules}
use Rattle.std.proofs.lemmas.List.{nil_from_length}
use Rattle.text_pieces.specs.Pieces.{lines}
use Rattle.text_pieces.proofs.Cuts.{first_line, cut_at, no_lines}
use Rattle.text_pieces.proofs.pieces.cut_line.Goals as goal

pub returns-then-is_empty-clause-lines : goal.returns-then-is_empty-clause-lines
returns-then-is_empty-clause-lines c = ap lines (nil_from_length c.args.text.now (search rules)) ∙ no_lines

pub returns-clause-lines : goal.returns-clause-lines
returns-clause-lines c =
    let some : 0 < length c.args.text.now = search rules in
    rw c.unwrap_or.ensures (first_line c.args.text.now c.line_end-end.result c.get.result _ c.line_end-end.ensures c.get.ensures.lookup some refl)

pub returns-clause-cut : goal.returns-clause-cut
returns-clause-cut c =
    rw c.unwrap_or.ensures (cut_at 10 c.args.text.now c.line_end-end.result c.get.result _ c.line_end-end.ensures c.get.ensures.lookup refl)
