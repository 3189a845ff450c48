use Rattle.std.proofs.Common.{◌≡◌, ◌+◌, ◌++◌, length}
use Rattle.part_summary.specs.Charts.{strokes}
use Rattle.part_summary.proofs.charts.put_strokes.Given as goal

abbrev pub invariant-loop-left : goal.invariant-loop-left
invariant-loop-left l = (l.out.items ++ strokes l.fn.feature l.number l.left ≡ l.initial.out.items ++ strokes l.fn.feature 1 l.fn.parts)
    × (l.number + length l.left ≡ 1 + length l.fn.parts)

abbrev pub decreases-loop-left : goal.decreases-loop-left
decreases-loop-left l = length l.left
