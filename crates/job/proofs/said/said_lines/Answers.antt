use Rattle.std.proofs.Common.{rules}
use Rattle.std.proofs.lemmas.Iterator.{YieldsList-from_map, items_from_collect}
use Rattle.std.proofs.lemmas.Iterator.Consumers.{YieldsList-from_first}
use Rattle.text_pieces.specs.Pieces.{lines}
use Rattle.job_text.specs.Lines.{job_line}
use Rattle.job.proofs.said.said_lines.Goals as goal

pub returns : goal.returns
returns c =
    items_from_collect _ c.collect.ensures.ran
    (YieldsList-from_map _ job_line (YieldsList-from_first (λ x. x.now) (λ s. lines s.rest.now) (lines c.args.text.now) (cc)) (cc) (λ x r q k. search rules))
