use Rattle.link_world.proofs.Ending.{finish_is}
use Rattle.link_world.proofs.worlds.world.World.finish.Goals as goal

pub returns-clause-ends : goal.returns-clause-ends
returns-clause-ends g c = finish_is (g.M.Machine.answers c.args.machine.now) c.args.self.now c.bring_to_end-turns.new.self
    c.bring_to_end-turns.result c.bring_to_end-turns.ensures.can c.bring_to_end-turns.ensures.not_now
    c.bring_to_end-turns.ensures.unchanged c.bring_to_end-turns.ensures.finishes c.bring_to_end-turns.ensures.few
    c.bring_to_end-turns.ensures.done c.bring_to_end-turns.ensures.measured c.bring_to_end-turns.ensures.memory
