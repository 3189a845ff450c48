use Rattle.std.proofs.Common.{◌≡◌, length}
use Rattle.part_summary.specs.Times.{time_in}
use Rattle.part_summary.proofs.plots.time_in.Given as goal

abbrev pub invariant-loop-left : goal.invariant-loop-left
invariant-loop-left l = time_in l.left ≡ time_in l.fn.notes

abbrev pub decreases-loop-left : goal.decreases-loop-left
decreases-loop-left l = length l.left
