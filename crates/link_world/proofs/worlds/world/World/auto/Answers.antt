use Rattle.link_world.proofs.Names.{ending, staged, sym}
use Rattle.link_world.proofs.Instructions.{part_as, none_made}
use Rattle.link_world.proofs.worlds.world.World.auto.Goals as goal

pub returns-in-Some-clause-made : goal.returns-in-Some-clause-made
returns-in-Some-clause-made g c = part_as c.once.result (ending (g.M.Machine.answers c.args.machine.now)) c.in-Some.event
    (staged c.args.self.now c.args.trace.now) (staged c.once.new.self c.once.new.trace) (sym c.in-Some.ensures.value) c.once.ensures

pub returns-in-None-clause-made : goal.returns-in-None-clause-made
returns-in-None-clause-made g c = none_made (ending (g.M.Machine.answers c.args.machine.now)) (staged c.args.self.now c.args.trace.now) (sym c.in-None.ensures.value)
