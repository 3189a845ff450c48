use Rattle.contact_ledger.proofs.Names.{◌+◌, ◌≡◌, ◌≤◌, AreEntries, contact_lines, drop, length, take, whole_lines}
use Rattle.contact_ledger.proofs.contact_texts.read_contacts.Given as goal

-- the lines so far are those of the acts so far
abbrev pub invariant-loop-line : goal.invariant-loop-line
invariant-loop-line l = record {
  left : drop l.number (whole_lines l.bytes) ≡ whole_lines l.rest;
  read : take l.number (whole_lines l.bytes) ≡ contact_lines l.ledger;
  entries : AreEntries l.ledger;
  count : l.number + length l.rest ≤ length l.bytes;
}

abbrev pub decreases-loop-line : goal.decreases-loop-line
decreases-loop-line l = length l.rest
