use Rattle.watched_ends.proofs.Names.{◌≤◌, AreTaken, length, take}
use Rattle.watched_ends.proofs.turns.heard_in_turn.Given as goal

-- the lines of the server up to a place were read
abbrev pub invariant-loop-line : goal.invariant-loop-line
invariant-loop-line l = AreTaken l.up l.next (take l.line-index l.down) l.dialogue × (l.later.quiet ≤ l.next) × (l.next ≤ length l.up)
