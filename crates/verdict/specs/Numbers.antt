-- The numbers of the combined checks.
use Rattle.std.specs.Prelude.{ℕ}
use Rattle.verdict.specs.declared.answer.CombinedCheck.{CombinedCheck}
use Rattle.verdict.specs.declared.answer.CombinedCheck.TheVariants.{BoltSteel, Channel, Anchor, Concrete}

abbrev pub number : CombinedCheck → ℕ
number BoltSteel = 1
number Channel = 2
number Anchor = 3
number Concrete = 4
