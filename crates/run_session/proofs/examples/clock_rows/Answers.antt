use Rattle.std.proofs.Common.{refl}
use Rattle.run_session.specs.Progress.{clock}
use Rattle.run_session.proofs.examples.clock_rows.Goals as goal

pub returns-clause-minute : goal.returns-clause-minute
unfolding clock
returns-clause-minute c = refl

pub returns-clause-second : goal.returns-clause-second
unfolding clock
returns-clause-second c = refl
