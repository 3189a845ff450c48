use Rattle.std.proofs.Common.{◌≡◌, ◌++◌, length}
use Rattle.std.specs.List.{flat_map}
use Rattle.part_summary.specs.Texts.{unfinished_line}
use Rattle.part_summary.proofs.texts.push_all_unfinished.Given as goal

abbrev pub invariant-loop-left : goal.invariant-loop-left
invariant-loop-left l = l.out.items ++ flat_map (unfinished_line l.before l.asked) l.left
    ≡ l.fn.out.items ++ flat_map (unfinished_line l.fn.before l.fn.asked) l.fn.parts

abbrev pub decreases-loop-left : goal.decreases-loop-left
decreases-loop-left l = length l.left
