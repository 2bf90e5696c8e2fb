use Rattle.std.proofs.Common.{◌≡◌, ℕ, ◌-◌, ◌<◌, ◌≤◌, length, get_or}
use Rattle.loadcase.specs.Closed.{closed_case}
use Rattle.verdict.specs.Figures.{no_figures, figures_of}
use Rattle.verdict.proofs.figures.row.Given as goal

abbrev pub invariant-loop-shown : goal.invariant-loop-shown
invariant-loop-shown g l =
    let m = g.M.FailureMode.meaning l.mode (closed_case l.case) in
    (length l.figures ≡ 16)
    × (l.count ≤ m.places.count)
    × ((k : ℕ) → k < l.count → get_or l.figures k no_figures ≡ figures_of m k)
    × ((k : ℕ) → l.count ≤ k → get_or l.figures k no_figures ≡ no_figures)

abbrev pub decreases-loop-shown : goal.decreases-loop-shown
decreases-loop-shown g l = (g.M.FailureMode.meaning l.mode (closed_case l.case)).places.count - l.count
