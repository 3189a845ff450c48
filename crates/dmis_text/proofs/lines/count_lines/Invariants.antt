use Rattle.dmis_text.proofs.Names.{◌+◌, ◌≡◌, ◌≤◌, length, lines}
use Rattle.dmis_text.proofs.lines.count_lines.Given as goal

abbrev pub invariant-loop-after : goal.invariant-loop-after
invariant-loop-after l = (l.count + length (lines l.rest) ≡ length (lines l.bytes)) × (l.count + length l.rest ≤ length l.bytes)

abbrev pub decreases-loop-after : goal.decreases-loop-after
decreases-loop-after l = length l.rest
