use Rattle.std.proofs.Common.{◌≡◌, ◌+◌, ◌++◌, length}
use Rattle.part_summary.specs.Pages.{part_rows}
use Rattle.part_summary.proofs.pages.put_parts.Given as goal

abbrev pub invariant-loop-left : goal.invariant-loop-left
invariant-loop-left l = (l.out.items ++ part_rows l.number l.left ≡ l.initial.out.items ++ part_rows 1 l.fn.parts)
    × (l.number + length l.left ≡ 1 + length l.fn.parts)

abbrev pub decreases-loop-left : goal.decreases-loop-left
decreases-loop-left l = length l.left
