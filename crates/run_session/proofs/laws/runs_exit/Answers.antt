use Rattle.run_session.proofs.Steps.{closes, ends_exit, over_exits}
use Rattle.run_session.proofs.laws.runs_exit.Goals as goal

pub returns : goal.returns
returns c = record { closes = closes; over = over_exits; ends = ends_exit }
