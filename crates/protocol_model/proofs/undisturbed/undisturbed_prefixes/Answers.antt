-- Undisturbed runs follow the plan.
use Rattle.protocol_model.proofs.undisturbed_run.UndisturbedRun.{undisturbed_lines, undisturbed_acts, undisturbed_counts}
use Rattle.protocol_model.proofs.undisturbed.undisturbed_prefixes.Goals as goal

-- src/undisturbed.rt:23:1
pub returns-clause-lines : goal.returns-clause-lines
returns-clause-lines c = undisturbed_lines

-- src/undisturbed.rt:23:1
pub returns-clause-acts : goal.returns-clause-acts
returns-clause-acts c = undisturbed_acts

-- src/undisturbed.rt:23:1
pub returns-clause-counted : goal.returns-clause-counted
returns-clause-counted c = undisturbed_counts
