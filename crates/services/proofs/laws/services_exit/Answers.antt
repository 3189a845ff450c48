use Rattle.services.proofs.Exits.{ends_exit, replaced_exit}
use Rattle.services.proofs.laws.services_exit.Goals as goal

pub returns : goal.returns
returns c = record { ends = ends_exit; replaced = replaced_exit }
