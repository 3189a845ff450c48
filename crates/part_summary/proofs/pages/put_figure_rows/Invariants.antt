use Rattle.std.proofs.Common.{◌≡◌, ◌+◌, ◌++◌, length}
use Rattle.part_summary.specs.Pages.{figure_rows}
use Rattle.part_summary.proofs.pages.put_figure_rows.Given as goal

abbrev pub invariant-loop-left : goal.invariant-loop-left
invariant-loop-left l = (l.out.items ++ figure_rows l.number l.left ≡ l.initial.out.items ++ figure_rows 1 l.fn.tallies)
    × (l.number + length l.left ≡ 1 + length l.fn.tallies)

abbrev pub decreases-loop-left : goal.decreases-loop-left
decreases-loop-left l = length l.left
