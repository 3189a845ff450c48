use Rattle.link_world.proofs.Names.{ap, arith, client_side, ClientEnd, server_side, ServerValue}
use Rattle.link_world.specs.LinkRuns.{client_stops, server_stops}
use Rattle.link_world.specs.Showing as show
use Rattle.link_world.proofs.Showing.{left_shown, turned_shown}
use Rattle.link_world.proofs.connections.link_runs.pair.Goals as goal

pub returns-in-Err-clause-stopped : goal.returns-in-Err-clause-stopped
returns-in-Err-clause-stopped g c = client_stops c.in-Err.fault c.in-Err.ensures.stopped.front
    (ap (λ (s : ServerValue). server_side s.end (g.SR.Source.left c.args.ports.now.server.source)
    (g.SW.Sink.taken c.args.ports.now.server.sink))
    c.leave.ensures)

pub returns-in-Err-serve_turns_with-clause-stopped : goal.returns-in-Err-serve_turns_with-clause-stopped
returns-in-Err-serve_turns_with-clause-stopped g c = server_stops
    (client_side c.watched_turn.new.client (g.CR.Source.left c.watched_turn.new.source)
    (g.CW.Sink.taken c.watched_turn.new.sink))
    c.in-Ok.moved c.in-Err-serve_turns_with.fault c.in-Ok.ensures.moved.whole c.in-Err-serve_turns_with.ensures.stopped.front
    (ap (λ (e : ClientEnd). client_side e (g.CR.Source.left c.watched_turn.new.source)
    (g.CW.Sink.taken c.watched_turn.new.sink))
    c.leave-in-Err-serve_turns_with.ensures)

pub returns-in-Err-clause-client_bounded : goal.returns-in-Err-clause-client_bounded
returns-in-Err-clause-client_bounded g c =
    let most = c.in-Err.ensures.stopped.within in omega (arith, most)

pub returns-in-Ok-serve_turns_with-clause-client_bounded : goal.returns-in-Ok-serve_turns_with-clause-client_bounded
returns-in-Ok-serve_turns_with-clause-client_bounded g c =
    let most = c.in-Ok.ensures.moved.within in omega (arith, most)

pub returns-in-Ok-serve_turns_with-clause-server_bounded : goal.returns-in-Ok-serve_turns_with-clause-server_bounded
returns-in-Ok-serve_turns_with-clause-server_bounded g c =
    let most = c.in-Ok-serve_turns_with.ensures.moved.within in omega (arith, most)

pub returns-in-Err-serve_turns_with-clause-client_bounded : goal.returns-in-Err-serve_turns_with-clause-client_bounded
returns-in-Err-serve_turns_with-clause-client_bounded g c =
    let most = c.in-Ok.ensures.moved.within in omega (arith, most)

pub returns-in-Err-serve_turns_with-clause-server_bounded : goal.returns-in-Err-serve_turns_with-clause-server_bounded
returns-in-Err-serve_turns_with-clause-server_bounded g c =
    let most = c.in-Err-serve_turns_with.ensures.stopped.within in omega (arith, most)

pub returns-in-Err-clause-shown : goal.returns-in-Err-clause-shown
returns-in-Err-clause-shown g c = turned_shown g.N.Watcher.shows c.args.client.now c.args.watcher.now 1000000 _ _ c.args.down c.args.client.now
    c.watched_turn.new.client _ _ _ _ c.watched_turn.result c.args.watcher.now c.watched_turn.new.watcher
    c.watched_turn.ensures.moved c.watched_turn.ensures.stopped show.begins c.watched_turn.ensures.shown

pub returns-in-Ok-serve_turns_with-clause-shown : goal.returns-in-Ok-serve_turns_with-clause-shown
returns-in-Ok-serve_turns_with-clause-shown g c = turned_shown g.N.Watcher.shows c.args.client.now c.args.watcher.now 1000000 _ _ c.args.down c.args.client.now
    c.watched_turn.new.client _ _ _ _ c.watched_turn.result c.args.watcher.now c.watched_turn.new.watcher
    c.watched_turn.ensures.moved c.watched_turn.ensures.stopped show.begins c.watched_turn.ensures.shown

pub returns-in-Err-serve_turns_with-clause-shown : goal.returns-in-Err-serve_turns_with-clause-shown
returns-in-Err-serve_turns_with-clause-shown g c = left_shown g.N.Watcher.shows c.args.client.now c.args.watcher.now
    c.watched_turn.new.client c.leave-in-Err-serve_turns_with.new.self c.watched_turn.new.watcher
    (turned_shown g.N.Watcher.shows c.args.client.now c.args.watcher.now 1000000 _ _ c.args.down c.args.client.now
    c.watched_turn.new.client _ _ _ _ c.watched_turn.result c.args.watcher.now c.watched_turn.new.watcher
    c.watched_turn.ensures.moved c.watched_turn.ensures.stopped show.begins c.watched_turn.ensures.shown)
    c.leave-in-Err-serve_turns_with.ensures
