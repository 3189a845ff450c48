use Rattle.witness.proofs.JudgementNames.{◌++◌, ◌+◌, ◌≡◌, bytes_of, drop, IsAt, seen_from, seen_lines}
use Rattle.witness.specs.declared.lines.Side.TheVariants.{Client, Server}
use Rattle.witness.proofs.orders.seen_lines.Given as goal

-- what the pieces that follow add to what was seen
abbrev pub invariant-loop-piece : goal.invariant-loop-piece
invariant-loop-piece l =
    (l.seen.items ++ seen_from l.client.bytes l.server.bytes (drop l.piece-index l.pieces) l.up l.down ≡ seen_lines l.pieces l.up l.down)
    × IsAt l.up l.client × IsAt l.down l.server
    × (l.client.bytes + bytes_of Client (drop l.piece-index l.pieces) ≡ bytes_of Client l.pieces)
    × (l.server.bytes + bytes_of Server (drop l.piece-index l.pieces) ≡ bytes_of Server l.pieces)
