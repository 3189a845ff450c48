use Rattle.std.proofs.Common.{◌≡◌, ◌+◌, length}
use Rattle.part_summary.specs.Pages.{all_compared}
use Rattle.part_summary.proofs.pages.all_compared.Given as goal

abbrev pub invariant-loop-left : goal.invariant-loop-left
invariant-loop-left l = l.count + all_compared l.left ≡ all_compared l.fn.tallies

abbrev pub decreases-loop-left : goal.decreases-loop-left
decreases-loop-left l = length l.left
