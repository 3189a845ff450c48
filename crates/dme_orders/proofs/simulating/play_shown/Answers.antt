use Rattle.dme_orders.proofs.Names.{AreTraced, false, rules, simulated}
use Rattle.dme_orders.proofs.LinesShown.{are_traced, shown}
use Rattle.dme_orders.proofs.simulating.play_shown.Goals as goal

pub returns-clause-lines : goal.returns-clause-lines
returns-clause-lines g c = λ none. shown g.L.Sink.taken g.L.Sink.has_failed c.push_all.result c.args.sink.now c.push_all.new.sink
    (AreTraced (simulated c.args.world.now.setup.shifts) c.args.schedule.now c.args.world.now.world c.play_traced.new.world.world)
    c.in_ok-text.field-0.now c.push_all.ensures.all c.push_all.ensures.fails c.push_all.ensures.front
    (are_traced (simulated c.args.world.now.setup.shifts) c.args.schedule.now c.args.world.now.world c.play_traced.new.world.world
    c.new-trace.result c.play_traced.new.trace c.end.new.self c.in_ok-text.field-0.now c.new-trace.ensures c.in_ok-play_traced.ensures.traced
    c.end.ensures (search rules) c.in_ok-text.ensures.ok none)
