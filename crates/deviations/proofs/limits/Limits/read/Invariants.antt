use Rattle.deviations.proofs.LimitNames.{◌+◌, ◌≡◌, ◌≤◌, length, limits_from, limits_of, lines}
use Rattle.deviations.proofs.limits.Limits.read.Given as goal

-- the limits so far, after the lines that are left, are those of the whole text
abbrev pub invariant-loop-line : goal.invariant-loop-line
invariant-loop-line l = (limits_from (l.number + 1) l.limits (lines l.rest) ≡ limits_of l.bytes)
    × (l.number + length l.rest ≤ length l.bytes)

abbrev pub decreases-loop-line : goal.decreases-loop-line
decreases-loop-line l = length l.rest
