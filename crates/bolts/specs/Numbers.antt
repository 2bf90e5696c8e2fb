-- The number of each question that can be answered no.
use Rattle.std.specs.Prelude.{ℕ}
use Rattle.bolts.specs.declared.refusal.Refusal.{Refusal}
use Rattle.bolts.specs.declared.refusal.Refusal.TheVariants.{Opening, Position, Loads, Full, Near, NoBolt, NoPlace, Allowance, Reduction}

abbrev pub number : Refusal → ℕ
number Opening = 5
number Position = 7
number Loads = 8
number Full = 9
number Near = 10
number NoBolt = 11
number NoPlace = 12
number Allowance = 13
number Reduction = 14
