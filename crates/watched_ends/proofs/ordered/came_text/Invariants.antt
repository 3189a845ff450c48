use Rattle.watched_ends.proofs.PieceLemmas.{IsOnTheWay}
use Rattle.watched_ends.proofs.ordered.came_text.Given as goal

-- the pieces up to a place have come, and the others have the bytes that are left
abbrev pub invariant-loop-side : goal.invariant-loop-side
invariant-loop-side l = IsOnTheWay l.fn.relay l.pieces l.side-index l.up l.down l.up_left l.down_left l.relay
