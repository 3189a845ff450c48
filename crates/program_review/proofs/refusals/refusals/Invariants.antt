use Rattle.program_review.proofs.Names.{[], ◌++◌, ◌≡◌, at_start, length, refusals_from}
use Rattle.program_review.specs.Taken.{nothing_around}
use Rattle.program_review.proofs.refusals.refusals.Given as goal

-- what was found so far, and what is to be found in the statements left
abbrev pub invariant-loop-left : goal.invariant-loop-left
invariant-loop-left l = l.remarks.items ++ refusals_from l.frames l.reading.fault l.reading.lines l.names.items l.around l.standing l.left
    ≡ refusals_from l.frames l.reading.fault l.reading.lines [] nothing_around at_start l.reading.statements.items

abbrev pub decreases-loop-left : goal.decreases-loop-left
decreases-loop-left l = length l.left
