use Rattle.std.proofs.Common.{ap, refl}
use Rattle.server_core.specs.Serving.{ServerValue}
use Rattle.services.proofs.Served.{new_served}
use Rattle.services.proofs.sessions.Session.new.Goals as goal

pub returns-clause-served : goal.returns-clause-served
returns-clause-served c = new_served c.args.setup _ (ap (λ (s : ServerValue). s.end) c.in_ok-server.ensures) c.in_ok-machine.ensures refl c.new-8.ensures.items
