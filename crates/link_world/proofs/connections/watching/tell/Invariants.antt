use Rattle.protocol_model.specs.Ends.{ClientEnd}
use Rattle.link_world.proofs.Telling.{ToldSoFar}
use Rattle.link_world.proofs.connections.watching.tell.Given as goal

abbrev pub invariant-loop-at : goal.invariant-loop-at
invariant-loop-at g l =
    ToldSoFar l.features l.held l.at (g.N.Watcher.told l.fn.watcher) (g.N.Watcher.told l.watcher)
    × ((client : ClientEnd) (after : g.row.N.Denot) → g.N.Watcher.shows client l.watcher after → g.N.Watcher.shows client l.fn.watcher after)
