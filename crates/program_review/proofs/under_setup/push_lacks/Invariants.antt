use Rattle.program_review.proofs.Names.{◌++◌, ◌≡◌, lacks_from, length, Selected}
use Rattle.program_review.proofs.under_setup.push_lacks.Given as goal

-- the remarks so far, and those of what is left
abbrev pub invariant-loop-left : goal.invariant-loop-left
invariant-loop-left l = l.remarks.items ++ lacks_from l.rack l.frames l.selected l.left
    ≡ l.fn.remarks.items ++ lacks_from l.rack l.frames Selected.Machine l.statements

abbrev pub decreases-loop-left : goal.decreases-loop-left
decreases-loop-left l = length l.left
