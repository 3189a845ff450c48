use Rattle.std.proofs.Common.{rules}
use Rattle.watched_ends.proofs.Names.{[], ap, begun, get_or, IsRead, Limited, refl, Side, subst}
use Rattle.watched_ends.proofs.PieceLemmas.{all_came, one_up, one_down}
use Rattle.witness.specs.declared.lines.Side.TheVariants.{Client}
use Rattle.watched_ends.proofs.ordered.came_text.Goals as goal
use Rattle.watched_ends.proofs.ordered.came_text.Goals.{in-Client+in_ok-from_client-in-Client+in_ok-read-in-Client, in-Server+in_ok-from_server-in-Server+in_ok-read-in-Server}

pub loop-side-init : goal.loop-side-init
loop-side-init c = record {
  up_came = [];
  down_came = [];
  up_parts = refl;
  down_parts = refl;
  relayed = begun;
  up_bytes = c.requires.up;
  down_bytes = c.requires.down;
}

pub loop-side-preserved : goal.loop-side-preserved
loop-side-preserved c =
    let piece = get_or c.args.pieces.now c.loop-side.side-index (Client, 0) in
    elim c.match-side.branch [
      | in-Client+in_ok-from_client-in-Client+in_ok-read-in-Client w ↦ rw (w.relay-is, w.up_left-is, w.down_left-is)
          (one_up c.args.relay.now c.args.pieces.now c.loop-side.side-index piece.1 (Client, 0) c.args.up.now c.args.down.now
          c.loop-side.up_left.now c.loop-side.down_left.now w.split_at.result.0.now w.split_at.result.1.now c.loop-side.relay w.read.new.self
          c.loop-side.invariant c.loop-side-test.true (ap (λ (side : Side). (side, piece.1)) w.in-Client.is) w.split_at.ensures.front w.split_at.ensures.back
          (subst (λ (l : Limited). IsRead l w.read.new.self) w.in_ok-from_client-in-Client.ensures.ok w.in_ok-read-in-Client.ensures))
      | in-Server+in_ok-from_server-in-Server+in_ok-read-in-Server w ↦ rw (w.relay-is, w.up_left-is, w.down_left-is)
          (one_down c.args.relay.now c.args.pieces.now c.loop-side.side-index piece.1 (Client, 0) c.args.up.now c.args.down.now
          c.loop-side.up_left.now c.loop-side.down_left.now w.split_at-in-Server.result.0.now w.split_at-in-Server.result.1.now
          c.loop-side.relay w.read-in-Server.new.self
          c.loop-side.invariant c.loop-side-test.true (ap (λ (side : Side). (side, piece.1)) w.in-Server.is)
          w.split_at-in-Server.ensures.front w.split_at-in-Server.ensures.back
          (subst (λ (l : Limited). IsRead l w.read-in-Server.new.self) w.in_ok-from_server-in-Server.ensures.ok w.in_ok-read-in-Server.ensures))
    ]

pub returns : goal.returns
returns c = record {
  relay = c.loop-side.relay;
  relayed = all_came c.args.relay.now c.args.pieces.now c.loop-side.side-index c.args.up.now c.args.down.now
      c.loop-side.up_left.now c.loop-side.down_left.now c.loop-side.relay c.loop-side.invariant c.loop-side-test.false;
  text_is = search rules;
}
