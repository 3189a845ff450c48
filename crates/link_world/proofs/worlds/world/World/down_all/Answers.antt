use Rattle.link_world.proofs.AllBytes.{down_done}
use Rattle.link_world.specs.Parts.{staged}
use Rattle.link_world.proofs.worlds.world.World.down_all.Goals as goal

pub returns : goal.returns
returns c = down_done c.waiting_down-count.result (staged c.args.self.now c.args.trace.now) (staged c.attempt.new.self c.attempt.new.trace) c.attempt.result c.waiting_down-count.ensures
    (c.attempt.ensures.told, c.attempt.ensures.leads, c.attempt.ensures.stays)
