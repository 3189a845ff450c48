use Rattle.ledger_audit.proofs.Names.{◌+◌, ◌-◌, ◌≤◌, Begins, HasNoneBetween, length}
use Rattle.ledger_audit.proofs.runs.first_served.Given as goal

-- the contacts of the search serve the first touches, and no start before serves all
abbrev pub invariant-loop-search : goal.invariant-loop-search
invariant-loop-search l = record {
  begins : Begins l.touches l.points l.contacts l.search.start l.search.served;
  before : HasNoneBetween l.touches l.points l.contacts l.least l.search.start;
  from : l.least ≤ l.search.start;
  served : l.search.served ≤ length l.points;
}

-- the start rises, and what it has reached does not fall
abbrev pub decreases-loop-search : goal.decreases-loop-search
decreases-loop-search l = length l.contacts + length l.contacts - (l.search.start + (l.search.start + l.search.served))
