use Rattle.dmis_text.proofs.Names.{◌++◌, ◌-◌, ◌≡◌, ◌≤◌, before_comment, drop, inside_after, is_clean, length, take}
use Rattle.dmis_text.proofs.lines.content_of.Given as goal

abbrev pub invariant-loop-at : goal.invariant-loop-at
invariant-loop-at l =
    (take l.at l.line ++ before_comment l.inside (drop l.at l.line) ≡ before_comment l.fn.inside l.line)
    × (is_clean l.inside (drop l.at l.line) ≡ is_clean l.fn.inside l.line)
    × (l.inside ≡ inside_after l.fn.inside (take l.at l.line))
    × (l.at ≤ length l.line)

abbrev pub decreases-loop-at : goal.decreases-loop-at
decreases-loop-at l = length l.line - l.at
