use Rattle.std.proofs.Common.{◌≡◌, ◌++◌, length}
use Rattle.std.specs.List.{flat_map}
use Rattle.part_summary.specs.Pages.{lacking_line}
use Rattle.part_summary.proofs.pages.put_all_lacking.Given as goal

abbrev pub invariant-loop-left : goal.invariant-loop-left
invariant-loop-left l = l.out.items ++ flat_map (lacking_line l.fn.asked) l.left ≡ l.initial.out.items ++ flat_map (lacking_line l.fn.asked) l.fn.parts

abbrev pub decreases-loop-left : goal.decreases-loop-left
decreases-loop-left l = length l.left
