use Rattle.link_world.proofs.AllBytes.{up_done}
use Rattle.link_world.specs.Parts.{staged}
use Rattle.link_world.proofs.worlds.world.World.up_all.Goals as goal

pub returns : goal.returns
returns c = up_done c.waiting_up-count.result (staged c.args.self.now c.args.trace.now) (staged c.attempt.new.self c.attempt.new.trace) c.attempt.result c.waiting_up-count.ensures
    (c.attempt.ensures.told, c.attempt.ensures.leads, c.attempt.ensures.stays)
