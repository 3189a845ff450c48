use Rattle.services.proofs.Relayed.{came_steps}
use Rattle.services.proofs.relaying.RelaySession.came.Goals as goal

pub returns : goal.returns
returns c = (
  came_steps _ _ _ _ c.args.peer c.args.piece.now c.note.ensures c.requires c.in_ok-give.ensures.given c.give.ensures.same
      c.show.ensures,
  tt,
)
