use Rattle.std.proofs.Common.{◌∷◌, ap, ◌∙◌}
use Rattle.job.proofs.running.run_said.Goals as goal

pub returns : goal.returns
returns c =
    let said = c.in-Some.ensures.cases.0 ∙ ap (λ l. l ∷ c.in-Some.lines.now) c.in_ok-site.ensures in
    rw said (c.in_ok-prepared.prepared, c.in_ok-prepared.ensures, c.in_ok-rated.ensures)
