use Rattle.link_world.proofs.ServerJoins.{serving_leaves}
use Rattle.link_world.proofs.connections.joined.turns_of_a_server_are_events.Goals as goal

pub returns-clause-leaves : goal.returns-clause-leaves
returns-clause-leaves c = serving_leaves
