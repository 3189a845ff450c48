use Rattle.std.proofs.Common.{refl}
use Rattle.protocol_model.proofs.scripts.failed_rows.Goals as goal

pub returns-clause-missed_answered : goal.returns-clause-missed_answered
returns-clause-missed_answered c = refl

pub returns-clause-missed_halted : goal.returns-clause-missed_halted
returns-clause-missed_halted c = refl

pub returns-clause-missed : goal.returns-clause-missed
returns-clause-missed c = refl

pub returns-clause-waiting_answered : goal.returns-clause-waiting_answered
returns-clause-waiting_answered c = refl

pub returns-clause-later_answered : goal.returns-clause-later_answered
returns-clause-later_answered c = refl

pub returns-clause-waiting_resumed : goal.returns-clause-waiting_resumed
returns-clause-waiting_resumed c = refl

pub returns-clause-nothing_runs : goal.returns-clause-nothing_runs
returns-clause-nothing_runs c = refl

pub returns-clause-touch_is_not_done : goal.returns-clause-touch_is_not_done
returns-clause-touch_is_not_done c = refl

pub returns-clause-touch_in_the_volume : goal.returns-clause-touch_in_the_volume
returns-clause-touch_in_the_volume c = refl

pub returns-clause-touch_outside_the_volume : goal.returns-clause-touch_outside_the_volume
returns-clause-touch_outside_the_volume c = refl
