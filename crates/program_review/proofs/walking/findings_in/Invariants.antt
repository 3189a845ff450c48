use Rattle.program_review.proofs.Names.{◌++◌, ◌≡◌, length, remarks_in}
use Rattle.program_review.specs.Remarks.{with_counts}
use Rattle.program_review.proofs.walking.findings_in.Given as goal

-- the findings so far, and those of what is left
abbrev pub invariant-loop-left : goal.invariant-loop-left
invariant-loop-left l = remarks_in l.findings.items ++ with_counts l.left ≡ with_counts l.remarks

abbrev pub decreases-loop-left : goal.decreases-loop-left
decreases-loop-left l = length l.left
