use Rattle.link_world.proofs.PeerJoins.{run_calls, broken_calls}
use Rattle.link_world.proofs.connections.joined.a_pumped_client_holds_first_features.Goals as goal

pub returns-clause-runs : goal.returns-clause-runs
returns-clause-runs c = run_calls

pub returns-clause-broken : goal.returns-clause-broken
returns-clause-broken c = broken_calls
