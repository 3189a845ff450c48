use Rattle.watched_ends.proofs.Names.{AreTaken, List, ℕ}
use Rattle.watched_ends.proofs.turns.read_for.Given as goal

-- the lines up to a place were read
abbrev pub invariant-loop-at : goal.invariant-loop-at
invariant-loop-at l = (down : List (List ℕ)) → AreTaken l.up l.next down l.fn.dialogue → AreTaken l.up l.at down l.dialogue
