use Rattle.record_text.proofs.Names.{◌+◌, ◌≡◌, ◌≤◌, drop, IsOpen, IsValid, Leads, length, stage_of, start, take, whole_lines}
use Rattle.record_text.proofs.head_reading.read_head.Given as goal

-- the lines so far lead to the place in the head
abbrev pub invariant-loop-line : goal.invariant-loop-line
invariant-loop-line l = record {
  left : drop l.number (whole_lines l.bytes) ≡ whole_lines l.rest;
  read : Leads start (take l.number (whole_lines l.bytes)) (stage_of l.head l.place);
  count : l.number + length l.rest ≤ length l.bytes;
  continues : IsOpen l.place;
  valid : IsValid l.place;
}

abbrev pub decreases-loop-line : goal.decreases-loop-line
decreases-loop-line l = length l.rest
