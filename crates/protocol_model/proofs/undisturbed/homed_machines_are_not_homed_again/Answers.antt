-- A machine that is homed is not homed again.
use Rattle.protocol_model.proofs.Names.{plan, refl}
use Rattle.protocol_model.proofs.undisturbed_run.UndisturbedRun.{homed_lines, no_homings}
use Rattle.protocol_model.proofs.undisturbed.homed_machines_are_not_homed_again.Goals as goal

pub returns-clause-lines : goal.returns-clause-lines
returns-clause-lines c = homed_lines

pub returns-clause-no_homing : goal.returns-clause-no_homing
returns-clause-no_homing c = λ program completed start. no_homings (plan program completed start)

pub returns-clause-whole : goal.returns-clause-whole
returns-clause-whole c = λ steps. refl
