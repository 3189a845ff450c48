use Rattle.link_world.proofs.Names.{◌∙◌, ap, arith, common_steps, PumpFault, refl, ServerFault, ServerRunStopped, ServerValue}
use Rattle.link_world.proofs.ServerRuns.{server_starts, server_goes, server_stops, server_spends, is_ended, is_stopped}
use Rattle.link_world.proofs.connections.links.serve_link.Goals.{After-end_of}
use Rattle.link_world.proofs.connections.links.serve_link.Given.{Over}
use Rattle.link_world.proofs.connections.links.serve_link.Goals as goal

-- a run that ends with a fault in this turn
abbrev Stopped : (g : Over) (c : After-end_of g) → PumpFault ServerFault → Type 0
Stopped g c f = ServerRunStopped (g.M.Machine.answers c.args.machine.now) c.args.server.now.end c.serve_turns_with.new.server.end
    (g.R.Source.left c.args.source.now) (g.R.Source.left c.serve_turns_with.new.source) (g.W.Sink.taken c.args.sink.now)
    (g.W.Sink.taken c.serve_turns_with.new.sink) f

stops : (g : Over) (c : After-end_of g) → Stopped g c c.in-Err.fault
stops g c = server_stops (g.M.Machine.answers c.args.machine.now) (g.M.Machine.answers c.loop-turn.machine) c.loop-turn._turn
    c.args.server.now.end c.loop-turn.server.end c.serve_turns_with.new.server.end (g.R.Source.left c.args.source.now)
    (g.R.Source.left c.loop-turn.source) (g.R.Source.left c.serve_turns_with.new.source) (g.W.Sink.taken c.args.sink.now)
    (g.W.Sink.taken c.loop-turn.sink) (g.W.Sink.taken c.serve_turns_with.new.sink) c.in-Err.fault c.loop-turn.invariant.0
    c.loop-turn-test.true c.loop-turn.invariant.2 c.in-Err.ensures.stopped.front

pub loop-turn-init : goal.loop-turn-init
loop-turn-init g c = (
  server_starts (g.M.Machine.answers c.args.machine.now) c.args.server.now.end (g.R.Source.left c.args.source.now)
      (g.W.Sink.taken c.args.sink.now),
  refl,
  refl,
  omega arith,
  λ works. works,
  λ works. works,
)

pub returns-in-Err-clause-ended : goal.returns-in-Err-clause-ended
returns-in-Err-clause-ended g c = is_ended c.end_of.result c.in-Err.fault (Stopped g c) c.end_of.ensures.ended (stops g c)

pub returns-in-Err-clause-bounded : goal.returns-in-Err-clause-bounded
returns-in-Err-clause-bounded g c =
    let before = c.loop-turn.invariant.3 in
    let few = c.loop-turn-test.true in
    let more = c.in-Err.ensures.stopped.within in omega (arith, before, few, more)

pub returns-in-Err-clause-stopped : goal.returns-in-Err-clause-stopped
returns-in-Err-clause-stopped g c = is_stopped c.end_of.result c.in-Err.fault (Stopped g c) c.end_of.ensures.same (stops g c)

pub loop-turn-preserved : goal.loop-turn-preserved
loop-turn-preserved g c = (
  server_goes (g.M.Machine.answers c.args.machine.now) (g.M.Machine.answers c.loop-turn.machine) c.loop-turn._turn
      c.args.server.now.end c.loop-turn.server.end c.serve_turns_with.new.server.end (g.R.Source.left c.args.source.now)
      (g.R.Source.left c.loop-turn.source) (g.R.Source.left c.serve_turns_with.new.source) (g.W.Sink.taken c.args.sink.now)
      (g.W.Sink.taken c.loop-turn.sink) (g.W.Sink.taken c.serve_turns_with.new.sink) c.in_default.field-0 c.loop-turn.invariant.0
      c.loop-turn.invariant.2 c.in_default.ensures.moved.whole,
  c.serve_turns_with.ensures.setup ∙ c.loop-turn.invariant.1,
  c.serve_turns_with.ensures.keeps ∙ c.loop-turn.invariant.2,
  (let before = c.loop-turn.invariant.3 in
      let more = c.in_default.ensures.moved.within in omega (arith, before, more)),
  grind (arith, common_steps),
  grind (arith, common_steps),
)

pub returns-clause-stopped : goal.returns-clause-stopped
returns-clause-stopped g c = server_spends (g.M.Machine.answers c.args.machine.now) c.loop-turn._turn c.args.server.now.end
    c.loop-turn.server.end c.leave.new.self.end (g.R.Source.left c.args.source.now) (g.R.Source.left c.loop-turn.source)
    (g.W.Sink.taken c.args.sink.now) (g.W.Sink.taken c.loop-turn.sink) c.loop-turn.invariant.0 (grind arith)
    (ap (λ (s : ServerValue). s.end) c.leave.ensures)
