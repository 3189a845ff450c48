use Rattle.ledger_audit.proofs.Names.{◌-◌, ◌≤◌, AreShifts, asked_at, IsCandidate, length}
use Rattle.ledger_audit.proofs.shifts.shifts_of.Given as goal

-- the shifts so far, and a candidate for the next one
abbrev pub invariant-loop-shifts : goal.invariant-loop-shifts
invariant-loop-shifts l = record {
  shifts : AreShifts (asked_at l.touches l.points) l.shifts.items;
  next : IsCandidate (asked_at l.touches l.points) (length l.shifts.items) l.shift;
  within : length l.shifts.items ≤ length l.points;
}

abbrev pub decreases-loop-shifts : goal.decreases-loop-shifts
decreases-loop-shifts l = length l.points - length l.shifts.items
