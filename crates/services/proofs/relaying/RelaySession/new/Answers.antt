use Rattle.std.proofs.Common.{refl}
use Rattle.services.proofs.Relayed.{new_begins}
use Rattle.services.proofs.relaying.RelaySession.new.Goals as goal

pub returns : goal.returns
returns c = new_begins _ _ refl c.new-3.ensures refl refl refl refl
