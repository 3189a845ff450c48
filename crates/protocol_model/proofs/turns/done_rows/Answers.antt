use Rattle.std.proofs.Common.{refl}
use Rattle.protocol_model.proofs.turns.done_rows.Goals as goal

pub returns-clause-counted_while_aborting : goal.returns-clause-counted_while_aborting
returns-clause-counted_while_aborting c = refl

pub returns-clause-still_aborting : goal.returns-clause-still_aborting
returns-clause-still_aborting c = refl

pub returns-clause-abort_received : goal.returns-clause-abort_received
returns-clause-abort_received c = refl

pub returns-clause-abort_ended : goal.returns-clause-abort_ended
returns-clause-abort_ended c = refl

pub returns-clause-last_command_ends : goal.returns-clause-last_command_ends
returns-clause-last_command_ends c = refl

pub returns-clause-event_command_is_open : goal.returns-clause-event_command_is_open
returns-clause-event_command_is_open c = refl

pub returns-clause-event_command_has_failed : goal.returns-clause-event_command_has_failed
returns-clause-event_command_has_failed c = refl

pub returns-clause-aborting_stays : goal.returns-clause-aborting_stays
returns-clause-aborting_stays c = refl

pub returns-clause-failing_is_done : goal.returns-clause-failing_is_done
returns-clause-failing_is_done c = refl

pub returns-clause-failing_halts : goal.returns-clause-failing_halts
returns-clause-failing_halts c = refl

pub returns-clause-failing_waits : goal.returns-clause-failing_waits
returns-clause-failing_waits c = refl

pub returns-clause-done_and_left : goal.returns-clause-done_and_left
returns-clause-done_and_left c = refl

pub returns-clause-not_connected_again : goal.returns-clause-not_connected_again
returns-clause-not_connected_again c = refl

pub returns-clause-halted_and_left : goal.returns-clause-halted_and_left
returns-clause-halted_and_left c = refl

pub returns-clause-restart_with_one : goal.returns-clause-restart_with_one
returns-clause-restart_with_one c = refl

pub returns-clause-restart_with_two : goal.returns-clause-restart_with_two
returns-clause-restart_with_two c = refl

pub returns-clause-nothing_changes : goal.returns-clause-nothing_changes
returns-clause-nothing_changes c = refl
