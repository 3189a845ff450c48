use Rattle.std.proofs.Common.{◌≡◌, length}
use Rattle.part_summary.specs.Charts.{reach_after}
use Rattle.part_summary.proofs.charts.reach_after.Given as goal

abbrev pub invariant-loop-left : goal.invariant-loop-left
invariant-loop-left l = reach_after l.fn.feature l.most l.left ≡ reach_after l.fn.feature l.fn.reach l.fn.parts

abbrev pub decreases-loop-left : goal.decreases-loop-left
decreases-loop-left l = length l.left
