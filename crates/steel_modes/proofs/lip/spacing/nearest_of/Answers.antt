use Rattle.loadcase.specs.Closed.{closed_case}
use Rattle.steel_modes.proofs.Nearby.{nearest_agrees}
use Rattle.steel_modes.proofs.lip.spacing.nearest_of.Goals as goal

pub returns : goal.returns
returns c = nearest_agrees (closed_case c.args.case.now).bolts c.args.place _ c.requires c.nearest.ensures
