use Rattle.line_framing.proofs.Names.{◌+◌, ◌-◌, ◌≡◌, ◌≤◌, content_len, drop, length}
use Rattle.line_framing.proofs.search.count_content.Given as goal

abbrev pub invariant-loop-at : goal.invariant-loop-at
invariant-loop-at l =
    (l.at + content_len (drop l.at l.bytes) ≡ content_len l.bytes)
    × (l.at ≤ length l.bytes)

abbrev pub decreases-loop-at : goal.decreases-loop-at
decreases-loop-at l = length l.bytes - l.at
