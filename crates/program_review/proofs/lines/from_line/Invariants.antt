use Rattle.program_review.proofs.Outside.{◌-◌, ◌≡◌, after_feeds, lines}
use Rattle.program_review.proofs.LineSteps.{IsPassed}
use Rattle.program_review.proofs.lines.from_line.Given as goal

abbrev pub invariant-loop-left : goal.invariant-loop-left
invariant-loop-left l = record { passed : IsPassed l.number l.left (lines l.text) (lines l.rest); behind : l.rest ≡ after_feeds (l.number - l.left) l.text }

abbrev pub decreases-loop-left : goal.decreases-loop-left
decreases-loop-left l = l.left
