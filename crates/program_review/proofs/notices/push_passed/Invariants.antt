use Rattle.std.proofs.Common.{◌≡◌, ◌++◌, length}
use Rattle.program_review.specs.Notices.{notices_of}
use Rattle.program_review.proofs.notices.push_passed.Given as goal

-- the remarks so far, and those of what is left
abbrev pub invariant-loop-left : goal.invariant-loop-left
invariant-loop-left l = l.remarks.items ++ notices_of l.left ≡ l.fn.remarks.items ++ notices_of l.statements

abbrev pub decreases-loop-left : goal.decreases-loop-left
decreases-loop-left l = length l.left
