use Rattle.std.proofs.Common.{refl}
use Rattle.link_world.proofs.Telling.{turned_grows, turn_tells}
use Rattle.link_world.proofs.connections.links.watched_turn.Goals as goal

pub returns-clause-told : goal.returns-clause-told
returns-clause-told g c =
    turn_tells c.args.client.now c.client_turns_with-result.new.client c.features-held.result.now
    c.client_turns_with-result.new.client.client.table.tally.features
    (g.N.Watcher.told c.args.watcher.now) (g.N.Watcher.told c.tell.new.watcher)
    (turned_grows 1000000 _ _ c.args.at_least c.args.client.now c.client_turns_with-result.new.client _ _ _ _ c.client_turns_with-result.result
    c.client_turns_with-result.ensures.moved c.client_turns_with-result.ensures.stopped)
    c.features-held.ensures.shown.0 refl c.tell.ensures.told
