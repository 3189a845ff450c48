use Rattle.program_review.proofs.Names.{◌++◌, ◌+◌, ◌≡◌, ◌≤◌, length, lines, remarks_in, unused_from}
use Rattle.program_review.proofs.recalling.add_unused_frames.Given as goal

-- the remarks so far, and those of what is left
abbrev pub invariant-loop-line : goal.invariant-loop-line
invariant-loop-line l = (remarks_in l.findings.items ++ unused_from l.names.items l.number (lines l.rest)
    ≡ remarks_in l.fn.findings.items ++ unused_from l.names.items 0 (lines l.setup)) × (l.number + length l.rest ≤ length l.setup)

abbrev pub decreases-loop-line : goal.decreases-loop-line
decreases-loop-line l = length l.rest
