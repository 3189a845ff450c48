use Rattle.std.proofs.Common.{◌≡◌, ◌++◌, length}
use Rattle.program_review.specs.Strays.{strays_from}
use Rattle.program_review.specs.Travels.{at_home, travels_from}
use Rattle.program_review.proofs.travels.push_travels.Given as goal

-- the remarks and the strays so far, and those of what is left
abbrev pub invariant-loop-left : goal.invariant-loop-left
invariant-loop-left l = (l.remarks.items ++ travels_from l.frames l.way l.left
    ≡ l.fn.remarks.items ++ travels_from l.frames at_home l.statements)
    × (l.strays.items ++ strays_from l.frames l.way l.left ≡ l.fn.strays.items ++ strays_from l.frames at_home l.statements)

abbrev pub decreases-loop-left : goal.decreases-loop-left
decreases-loop-left l = length l.left
