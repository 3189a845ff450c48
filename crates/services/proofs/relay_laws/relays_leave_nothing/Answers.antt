use Rattle.services.proofs.Relayed.{nothing_left}
use Rattle.services.proofs.relay_laws.relays_leave_nothing.Goals as goal

pub returns : goal.returns
returns c = λ s f is well stands relays. nothing_left s f is well stands relays
