use Rattle.std.proofs.Common.{◌≡◌, length}
use Rattle.std.specs.Option.{option_map}
use Rattle.text_pieces.specs.Pieces.{words_after}
use Rattle.job_text.proofs.NumberRuns.{Read}
use Rattle.job_text.proofs.numbers.numbers_in.Given as goal

abbrev pub invariant-loop-number : goal.invariant-loop-number
invariant-loop-number g l = Read (words_after (option_map (λ x. x.now) l.initial.rest)) (words_after (option_map (λ x. x.now) l.rest)) l.number-items l.number-index × (length l.number-items ≡ g.row.N)
