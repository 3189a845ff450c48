use Rattle.services.proofs.Leading.{served_at_exit}
use Rattle.services.proofs.laws.services_exit_with_their_status.Goals as goal

pub returns : goal.returns
returns c = λ first s past o is led at. served_at_exit first past s o is led at
