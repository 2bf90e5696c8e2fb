use Rattle.std.proofs.Common.{◌≡◌, ◌++◌, drop, vec_items}
use Rattle.job.specs.Scripts.{script}
use Rattle.job.proofs.script.script_of.Given as goal

abbrev pub invariant-loop-line : goal.invariant-loop-line
invariant-loop-line l = vec_items l.calls ++ script (drop l.line-index l.said) ≡ script l.said
