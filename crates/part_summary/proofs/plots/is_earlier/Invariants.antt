use Rattle.std.proofs.Common.{◌≡◌, length}
use Rattle.part_summary.specs.Times.{is_earlier}
use Rattle.part_summary.proofs.plots.is_earlier.Given as goal

abbrev pub invariant-loop-left : goal.invariant-loop-left
invariant-loop-left l = is_earlier l.left l.rest ≡ is_earlier l.fn.time l.fn.other

abbrev pub decreases-loop-left : goal.decreases-loop-left
decreases-loop-left l = length l.left
