use Rattle.ledger_audit.proofs.Names.{◌-◌, asked_at, IsCandidate, length}
use Rattle.ledger_audit.proofs.shifts.least_shift.Given as goal

abbrev pub invariant-loop-shift : goal.invariant-loop-shift
invariant-loop-shift l = IsCandidate (asked_at l.touches l.points) (length l.shifts) l.shift

abbrev pub decreases-loop-shift : goal.decreases-loop-shift
decreases-loop-shift l = length l.shifts - l.shift
