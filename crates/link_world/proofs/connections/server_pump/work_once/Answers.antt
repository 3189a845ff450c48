use Rattle.link_world.proofs.ServerPumps.{works_same, works_end, works_turn, has_turn}
use Rattle.link_world.proofs.connections.server_pump.work_once.Goals as goal

pub returns-in_ok-machine-in-Some-clause-goes : goal.returns-in_ok-machine-in-Some-clause-goes
returns-in_ok-machine-in-Some-clause-goes g c = works_end (g.M.Machine.answers c.args.machine.now) c.args.server.now c.machine.new.self
    c.in-Some.outcome c.in-Some.ensures.value c.in_ok-machine-in-Some.ensures.leads.0

pub returns-in_ok-turn-in-None-clause-goes : goal.returns-in_ok-turn-in-None-clause-goes
returns-in_ok-turn-in-None-clause-goes g c = works_turn (g.M.Machine.answers c.args.machine.now) c.args.server.now c.turn.new.self
    (has_turn (g.M.Machine.answers c.args.machine.now) c.args.server.now.end.server c.requires c.in-None.ensures.value)
    c.in_ok-turn-in-None.ensures.leads.0

pub returns-in_err-machine-in-Some-clause-goes : goal.returns-in_err-machine-in-Some-clause-goes
returns-in_err-machine-in-Some-clause-goes g c = works_same (g.M.Machine.answers c.args.machine.now) c.args.server.now c.machine.new.self
    c.in_err-machine-in-Some.ensures.leads.1

pub returns-in_err-turn-in-None-clause-goes : goal.returns-in_err-turn-in-None-clause-goes
returns-in_err-turn-in-None-clause-goes g c = works_same (g.M.Machine.answers c.args.machine.now) c.args.server.now c.turn.new.self
    c.in_err-turn-in-None.ensures.leads.1
