use Rattle.witness.proofs.JudgementNames.{◌+◌, ◌≡◌, ◌≤◌, bytes_of, drop}
use Rattle.witness.proofs.orders.bytes_of.Given as goal

-- what is left for the pieces that follow
abbrev pub invariant-loop-piece : goal.invariant-loop-piece
invariant-loop-piece l = (l.most + bytes_of l.side (drop l.piece-index l.pieces) ≡ l.left + bytes_of l.side l.pieces) × (l.left ≤ l.most)
