use Rattle.std.proofs.Common.{◌≡◌, drop}
use Rattle.program_review.specs.BadNames.{leftmost_byte}
use Rattle.program_review.proofs.bad_names.leftmost_byte.Given as goal

-- the bytes so far can be in a name
abbrev pub invariant-loop-byte : goal.invariant-loop-byte
invariant-loop-byte l = leftmost_byte (drop l.byte-index l.text) ≡ leftmost_byte l.text
