use Rattle.program_review.proofs.Names.{◌++◌, ◌≡◌, length, remarks_in}
use Rattle.program_review.specs.Summary.{sums_in, summary_of}
use Rattle.program_review.proofs.summary.add_summary.Given as goal

abbrev pub invariant-loop-left : goal.invariant-loop-left
invariant-loop-left l = remarks_in l.findings.items ++ sums_in l.found l.left ≡ remarks_in l.fn.findings.items ++ summary_of l.found

abbrev pub decreases-loop-left : goal.decreases-loop-left
decreases-loop-left l = length l.left
