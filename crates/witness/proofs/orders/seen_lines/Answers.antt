use Rattle.std.proofs.Common.{rules}
use Rattle.witness.specs.declared.lines.Side.TheVariants.{Client, Server}
use Rattle.witness.proofs.JudgementNames.{◌+◌, ◌-◌, ◌∙◌, ap, drop, drop_more, get_or, ℕ}
use Rattle.witness.proofs.OrderLemmas.{bytes_more, grown, seen_more}
use Rattle.witness.proofs.orders.seen_lines.Goals as goal
use Rattle.std.specs.Vec.{vec_len}

pub loop-piece-preserved : goal.loop-piece-preserved
loop-piece-preserved c =
    let at = c.loop-piece.piece-index in
    let pieces = c.args.pieces.now in
    let piece = get_or pieces at (Client, 0) in
    let rest = drop (at + 1) pieces in
    let are = drop_more pieces at (Client, 0) c.loop-piece-test.true in
    let client = c.advance-client.ensures.bytes ∙ ap (λ (n : ℕ). c.loop-piece.client.bytes + n) c.count_of.ensures in
    let server = c.advance-server.ensures.bytes ∙ ap (λ (n : ℕ). c.loop-piece.server.bytes + n) c.count_of-in-loop-piece.ensures in
    let grew = grown c.loop-piece.seen.items c.resize.new.self.items c.len.result (vec_len c.loop-piece.seen)
    (c.advance-server.result.at - c.loop-piece.server.at) c.advance-client.result.at (search rules) (search rules) c.in_ok-resize.ensures.items in (
      seen_more c.args.up.now c.args.down.now c.loop-piece.seen.items c.resize.new.self.items (drop at pieces) rest piece c.loop-piece.client c.loop-piece.server
          c.advance-client.result c.advance-server.result are c.advance-client.ensures.at c.loop-piece.invariant.2 c.advance-server.ensures.at client server
          grew ∙ c.loop-piece.invariant.0,
      c.advance-client.ensures.at,
      c.advance-server.ensures.at,
      bytes_more Client (drop at pieces) rest piece c.loop-piece.client.bytes c.advance-client.result.bytes are client ∙ c.loop-piece.invariant.3,
      bytes_more Server (drop at pieces) rest piece c.loop-piece.server.bytes c.advance-server.result.bytes are server ∙ c.loop-piece.invariant.4,
    )
