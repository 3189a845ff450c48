use Rattle.link_world.proofs.Names.{◌∙◌, ap, arith, client_side, ClientEnd, common_steps, refl, rules, server_side, ServerValue}
use Rattle.link_world.specs.LinkRuns as run
use Rattle.link_world.proofs.ClientPumps.{if_err}
use Rattle.link_world.proofs.LoopRuns.{pair_goes, loop_stops, loop_spends}
use Rattle.link_world.proofs.Telling.{tells_none, tells_more, tells_left}
use Rattle.link_world.specs.Showing as show
use Rattle.link_world.proofs.Showing.{shown_more, left_shown}
use Rattle.link_world.proofs.connections.link_runs.pairs.Goals as goal

pub loop-pair-init : goal.loop-pair-init
loop-pair-init g c = (
  run.starts,
  refl,
  refl,
  omega arith,
  omega arith,
  λ works. works,
  λ works. works,
  λ works. works,
  λ works. works,
  tells_none c.args.client.now (g.N.Watcher.told c.args.watcher.now),
  show.begins,
)

pub returns-in_err-by_client-clause-stopped : goal.returns-in_err-by_client-clause-stopped
returns-in_err-by_client-clause-stopped g c = if_err c.from_residual.result _ _ c.from_residual.ensures.0 c.from_residual.ensures.1
    (loop_stops (g.M.Machine.answers c.args.machine.now) (g.M.Machine.answers c.loop-pair.machine) c.loop-pair._pair c.loop-pair.down
    (client_side c.args.client.now (g.CR.Source.left c.args.ports.now.client.source) (g.CW.Sink.taken c.args.ports.now.client.sink))
    (client_side c.loop-pair.client (g.CR.Source.left c.loop-pair.ports.client.source) (g.CW.Sink.taken c.loop-pair.ports.client.sink))
    (client_side c.pair.new.client (g.CR.Source.left c.pair.new.ports.client.source) (g.CW.Sink.taken c.pair.new.ports.client.sink))
    (server_side c.args.server.now.end (g.SR.Source.left c.args.ports.now.server.source) (g.SW.Sink.taken c.args.ports.now.server.sink))
    (server_side c.loop-pair.server.end (g.SR.Source.left c.loop-pair.ports.server.source) (g.SW.Sink.taken c.loop-pair.ports.server.sink))
    (server_side c.pair.new.server.end (g.SR.Source.left c.pair.new.ports.server.source) (g.SW.Sink.taken c.pair.new.ports.server.sink))
    c.in_err-by_client.field-0.0 c.loop-pair.invariant.0 c.loop-pair-test.true c.loop-pair.invariant.2 c.in_err-by_client.ensures.stopped)

pub loop-pair-preserved : goal.loop-pair-preserved
loop-pair-preserved g c = (
  pair_goes (g.M.Machine.answers c.args.machine.now) (g.M.Machine.answers c.loop-pair.machine) c.loop-pair._pair c.loop-pair.down
      (client_side c.args.client.now (g.CR.Source.left c.args.ports.now.client.source) (g.CW.Sink.taken c.args.ports.now.client.sink))
      (client_side c.loop-pair.client (g.CR.Source.left c.loop-pair.ports.client.source) (g.CW.Sink.taken c.loop-pair.ports.client.sink))
      (client_side c.pair.new.client (g.CR.Source.left c.pair.new.ports.client.source) (g.CW.Sink.taken c.pair.new.ports.client.sink))
      (server_side c.args.server.now.end (g.SR.Source.left c.args.ports.now.server.source) (g.SW.Sink.taken c.args.ports.now.server.sink))
      (server_side c.loop-pair.server.end (g.SR.Source.left c.loop-pair.ports.server.source)
      (g.SW.Sink.taken c.loop-pair.ports.server.sink))
      (server_side c.pair.new.server.end (g.SR.Source.left c.pair.new.ports.server.source) (g.SW.Sink.taken c.pair.new.ports.server.sink))
      c.in_ok-by_client.by_client c.in_ok-by_client.by_server c.loop-pair.invariant.0 c.loop-pair.invariant.2
      c.in_ok-by_client.ensures.moved (search rules),
  c.pair.ensures.setup ∙ c.loop-pair.invariant.1,
  c.pair.ensures.keeps ∙ c.loop-pair.invariant.2,
  grind (arith, common_steps),
  grind (arith, common_steps),
  grind (arith, common_steps),
  grind (arith, common_steps),
  grind (arith, common_steps),
  grind (arith, common_steps),
  tells_more c.args.client.now c.loop-pair.client c.pair.new.client (g.N.Watcher.told c.args.watcher.now)
      (g.N.Watcher.told c.loop-pair.watcher) (g.N.Watcher.told c.pair.new.watcher) c.loop-pair.invariant.9 c.pair.ensures.told,
  shown_more g.N.Watcher.shows c.args.client.now c.loop-pair.client c.args.watcher.now
      c.loop-pair.watcher c.pair.new.client c.pair.new.watcher c.loop-pair.invariant.10 c.pair.ensures.shown,
)

pub returns-in_err-by_client-clause-told : goal.returns-in_err-by_client-clause-told
returns-in_err-by_client-clause-told g c = tells_more c.args.client.now c.loop-pair.client c.pair.new.client
    (g.N.Watcher.told c.args.watcher.now) (g.N.Watcher.told c.loop-pair.watcher) (g.N.Watcher.told c.pair.new.watcher)
    c.loop-pair.invariant.9 c.pair.ensures.told

pub returns-then-are_still-clause-told : goal.returns-then-are_still-clause-told
returns-then-are_still-clause-told g c = tells_more c.args.client.now c.loop-pair.client c.pair.new.client
    (g.N.Watcher.told c.args.watcher.now) (g.N.Watcher.told c.loop-pair.watcher) (g.N.Watcher.told c.pair.new.watcher)
    c.loop-pair.invariant.9 c.pair.ensures.told

pub returns-clause-told : goal.returns-clause-told
returns-clause-told g c = tells_left c.args.client.now c.loop-pair.client c.leave.new.self
    (g.N.Watcher.told c.args.watcher.now) (g.N.Watcher.told c.loop-pair.watcher) c.leave.ensures c.loop-pair.invariant.9

pub returns-clause-stopped : goal.returns-clause-stopped
returns-clause-stopped g c = loop_spends (g.M.Machine.answers c.args.machine.now) c.loop-pair._pair c.loop-pair.down
    (client_side c.args.client.now (g.CR.Source.left c.args.ports.now.client.source) (g.CW.Sink.taken c.args.ports.now.client.sink))
    (client_side c.loop-pair.client (g.CR.Source.left c.loop-pair.ports.client.source) (g.CW.Sink.taken c.loop-pair.ports.client.sink))
    (client_side c.leave.new.self (g.CR.Source.left c.loop-pair.ports.client.source) (g.CW.Sink.taken c.loop-pair.ports.client.sink))
    (server_side c.args.server.now.end (g.SR.Source.left c.args.ports.now.server.source) (g.SW.Sink.taken c.args.ports.now.server.sink))
    (server_side c.loop-pair.server.end (g.SR.Source.left c.loop-pair.ports.server.source) (g.SW.Sink.taken c.loop-pair.ports.server.sink))
    (server_side c.leave-2.new.self.end (g.SR.Source.left c.loop-pair.ports.server.source) (g.SW.Sink.taken c.loop-pair.ports.server.sink))
    c.loop-pair.invariant.0 (grind arith)
    (ap (λ (e : ClientEnd). client_side e (g.CR.Source.left c.loop-pair.ports.client.source)
    (g.CW.Sink.taken c.loop-pair.ports.client.sink))
    c.leave.ensures)
    (ap (λ (s : ServerValue). server_side s.end (g.SR.Source.left c.loop-pair.ports.server.source)
    (g.SW.Sink.taken c.loop-pair.ports.server.sink))
    c.leave-2.ensures)

pub returns-in_err-by_client-clause-shown : goal.returns-in_err-by_client-clause-shown
returns-in_err-by_client-clause-shown g c = shown_more g.N.Watcher.shows c.args.client.now c.loop-pair.client c.args.watcher.now
    c.loop-pair.watcher c.pair.new.client c.pair.new.watcher c.loop-pair.invariant.10 c.pair.ensures.shown

pub returns-then-are_still-clause-shown : goal.returns-then-are_still-clause-shown
returns-then-are_still-clause-shown g c = shown_more g.N.Watcher.shows c.args.client.now c.loop-pair.client c.args.watcher.now
    c.loop-pair.watcher c.pair.new.client c.pair.new.watcher c.loop-pair.invariant.10 c.pair.ensures.shown

pub returns-clause-shown : goal.returns-clause-shown
returns-clause-shown g c = left_shown g.N.Watcher.shows c.args.client.now c.args.watcher.now c.loop-pair.client c.leave.new.self
    c.loop-pair.watcher c.loop-pair.invariant.10 c.leave.ensures
