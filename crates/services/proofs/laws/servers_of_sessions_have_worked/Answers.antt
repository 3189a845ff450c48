use Rattle.services.proofs.Served.{has_done}
use Rattle.services.proofs.laws.servers_of_sessions_have_worked.Goals as goal

pub returns-clause-read : goal.returns-clause-read
returns-clause-read c = λ setup over heard written e s. (has_done setup over heard written e s).0

pub returns-clause-idle : goal.returns-clause-idle
returns-clause-idle c = λ setup over heard written e s. (has_done setup over heard written e s).1
