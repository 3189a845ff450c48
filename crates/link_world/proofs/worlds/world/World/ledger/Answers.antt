use Rattle.link_world.proofs.Reached.{headline_seen}
use Rattle.link_world.proofs.worlds.world.World.ledger.Goals as goal

pub returns-clause-always : goal.returns-clause-always
returns-clause-always c = headline_seen _ _ c.self.view_is c.self.invariant
