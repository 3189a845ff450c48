use Rattle.program_review.proofs.Outside.{◌++◌, ◌≡◌, drop, flat_map, string_bytes, visible_in_line}
use Rattle.program_review.proofs.lines.push_line.Given as goal

-- what is written and what is left are all bytes
abbrev pub invariant-loop-byte : goal.invariant-loop-byte
invariant-loop-byte l = string_bytes l.text ++ flat_map visible_in_line (drop l.byte-index l.bytes)
    ≡ string_bytes l.fn.text ++ flat_map visible_in_line l.bytes
