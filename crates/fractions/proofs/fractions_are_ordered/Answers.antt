use borrow.Author.Rules.{rules}
use Rattle.fractions.proofs.Orders.{ordered}
use Rattle.fractions.proofs.fractions_are_ordered.Goals as goal

pub returns : goal.returns
returns c = record { laws = ordered; count = search rules }
