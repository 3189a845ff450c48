use Rattle.std.proofs.Common.{refl}
use Rattle.run_session.proofs.examples.report_rows.Goals as goal

pub returns-clause-text : goal.returns-clause-text
returns-clause-text c = refl
