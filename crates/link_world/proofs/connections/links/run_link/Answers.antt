use Rattle.link_world.proofs.Names.{◌<◌, arith, common_steps, rules}
use Rattle.link_world.proofs.ClientPumps.{if_err}
use Rattle.link_world.proofs.ClientRuns.{client_starts, client_goes, client_stops, client_spends}
use Rattle.link_world.proofs.connections.links.run_link.Goals as goal

pub loop-piece-init : goal.loop-piece-init
loop-piece-init g c = (
  client_starts c.args.client.now (g.R.Source.left c.args.source.now) (g.W.Sink.taken c.args.sink.now),
  omega arith,
  omega arith,
  λ works. works,
  λ works. works,
)

pub returns-then-turns-eq-TURNS_MAX-clause-stopped : goal.returns-then-turns-eq-TURNS_MAX-clause-stopped
returns-then-turns-eq-TURNS_MAX-clause-stopped g c = client_spends c.loop-piece.turns c.args.client.now c.loop-piece.client
    c.leave.new.self (g.R.Source.left c.args.source.now) (g.R.Source.left c.loop-piece.source)
    (g.W.Sink.taken c.args.sink.now)
    (g.W.Sink.taken c.loop-piece.sink) c.loop-piece.invariant.0 (search rules) (grind arith) c.leave.ensures

pub returns-in_err-client_turns_with-clause-stopped : goal.returns-in_err-client_turns_with-clause-stopped
returns-in_err-client_turns_with-clause-stopped g c = if_err c.from_residual.result _ _ c.from_residual.ensures.0 c.from_residual.ensures.1
    (client_stops c.loop-piece.turns c.args.client.now c.loop-piece.client c.client_turns_with.new.client
    (g.R.Source.left c.args.source.now)
    (g.R.Source.left c.loop-piece.source) (g.R.Source.left c.client_turns_with.new.source) (g.W.Sink.taken c.args.sink.now)
    (g.W.Sink.taken c.loop-piece.sink) (g.W.Sink.taken c.client_turns_with.new.sink) c.in_err-client_turns_with.field-0.0
    c.loop-piece.invariant.0 (search rules) (grind arith) c.in_err-client_turns_with.ensures.stopped.front)

pub returns-in_err-client_turns_with-clause-bounded : goal.returns-in_err-client_turns_with-clause-bounded
returns-in_err-client_turns_with-clause-bounded g c =
    let before = c.loop-piece.invariant.2 in
    let few : c.loop-piece.turns < 1000000 = grind arith in
    let more = c.in_err-client_turns_with.ensures.stopped.within in omega (arith, before, few, more)

pub loop-piece-preserved : goal.loop-piece-preserved
loop-piece-preserved g c = (
  client_goes c.loop-piece.turns c.args.client.now c.loop-piece.client c.client_turns_with.new.client (g.R.Source.left c.args.source.now)
      (g.R.Source.left c.loop-piece.source) (g.R.Source.left c.client_turns_with.new.source) (g.W.Sink.taken c.args.sink.now)
      (g.W.Sink.taken c.loop-piece.sink) (g.W.Sink.taken c.client_turns_with.new.sink) c.in_ok-client_turns_with.field-0
      c.loop-piece.invariant.0 (search rules) c.in_ok-client_turns_with.ensures.moved.whole,
  grind (arith, common_steps),
  (let before = c.loop-piece.invariant.2 in
      let more = c.in_ok-client_turns_with.ensures.moved.within in omega (arith, before, more)),
  grind (arith, common_steps),
  grind (arith, common_steps),
)
