use Rattle.link_world.proofs.Reached.{headline_seen}
use Rattle.link_world.proofs.SameKind.{answered, same_behind}
use Rattle.link_world.proofs.worlds.world.World.step.Goals as goal

pub returns-clause-always : goal.returns-clause-always
returns-clause-always c = headline_seen _ _ c.self.view_is c.self.invariant

pub returns-clause-answer : goal.returns-clause-answer
returns-clause-answer c = answered c.args.event c.args.self.now.world c.happen-done.result c.happen-done.ensures.can
    c.happen-done.ensures.takes

pub returns-clause-fixed : goal.returns-clause-fixed
returns-clause-fixed c = same_behind c.args.self.now c.happen-done.new.self c.args.event c.happen-done.result
    c.happen-done.ensures.can c.happen-done.ensures.world
