use Rattle.services.proofs.Exits.{relay_exits}
use Rattle.services.proofs.relay_laws.relays_exit.Goals as goal

pub returns : goal.returns
returns c = relay_exits
