use Rattle.link_world.proofs.Names.{rules, staged}
use Rattle.link_world.proofs.EventLists.{going_more, going_ends}
use Rattle.link_world.proofs.EventsLeft.{less_after}
use Rattle.link_world.proofs.worlds.world.World.repeat.Goals as goal

pub returns-then-not-branch : goal.returns-then-not-branch
returns-then-not-branch c = going_ends c.args.event c.loop-busy.busy (staged c.args.self.now c.args.trace.now) (staged c.loop-busy.self c.loop-busy.trace)
    (staged c.attempt.new.self c.attempt.new.trace) (c.loop-busy.invariant) (search rules) (c.in_ok-attempt.ensures.leads)

pub loop-busy-smaller : goal.loop-busy-smaller
loop-busy-smaller c = less_after c.args.event c.loop-busy.self c.attempt.new.self c.requires (search rules) c.in_ok-attempt.ensures.ok

pub loop-busy-preserved : goal.loop-busy-preserved
loop-busy-preserved c = going_more c.args.event c.loop-busy.busy (staged c.args.self.now c.args.trace.now) (staged c.loop-busy.self c.loop-busy.trace)
    (staged c.attempt.new.self c.attempt.new.trace) (c.loop-busy.invariant) (search rules) (c.in_ok-attempt.ensures.leads)
