use Rattle.record_text.proofs.Names.{◌+◌, ◌<◌, ◌^◌, body, length, nothing_kept, whole_lines}
use Rattle.record_text.proofs.EntryReads.{AreRead}
use Rattle.record_text.proofs.record_reading.read_entries.Given as goal

-- the lines so far lead to what they leave
abbrev pub invariant-loop-line : goal.invariant-loop-line
invariant-loop-line l = record {
  read : AreRead (body l.head.part l.head.asked nothing_kept) (whole_lines l.text) (whole_lines l.rest) l.above l.number l.head.part l.head.asked
      l.body;
  count : l.number + length l.rest < 2 ^ 64;
}

abbrev pub decreases-loop-line : goal.decreases-loop-line
decreases-loop-line l = length l.rest
