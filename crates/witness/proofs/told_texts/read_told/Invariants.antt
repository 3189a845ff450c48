use Rattle.witness.proofs.ToldNames.{◌+◌, ◌≡◌, ◌≤◌, AreToldEntries, drop, length, NeverFall, take, told_file_lines, whole_lines}
use Rattle.witness.proofs.told_texts.read_told.Given as goal

-- the lines so far are those of the acts so far
abbrev pub invariant-loop-line : goal.invariant-loop-line
invariant-loop-line l = record {
  left : drop l.number (whole_lines l.bytes) ≡ whole_lines l.rest;
  read : take l.number (whole_lines l.bytes) ≡ told_file_lines l.ledger;
  entries : AreToldEntries l.ledger;
  up : NeverFall l.ledger;
  count : l.number + length l.rest ≤ length l.bytes;
}

abbrev pub decreases-loop-line : goal.decreases-loop-line
decreases-loop-line l = length l.rest
