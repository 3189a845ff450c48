use Rattle.protocol_model.proofs.worked_rows.LedgerRefused.{first_connection_is, second_connection_is, front_is, nothing_counted_is}
use Rattle.protocol_model.proofs.worked_rows.LedgerRefused.{no_front_is_none, exchanged_is_none, never_done_is_none, too_many_are_none}
use Rattle.protocol_model.proofs.worked_rows.LedgerRefused.{other_connection_is_none, no_connection_is_none}
use Rattle.protocol_model.proofs.worked_rows.LedgerRefused.{asked_and_homed_is, asked_again_is, other_answer_is_none, passed_over_is_none}
use Rattle.protocol_model.proofs.ledger_rows.counted_rows.Goals as goal

pub returns-clause-first_connection : goal.returns-clause-first_connection
returns-clause-first_connection c = first_connection_is

pub returns-clause-second_connection : goal.returns-clause-second_connection
returns-clause-second_connection c = second_connection_is

pub returns-clause-front : goal.returns-clause-front
returns-clause-front c = front_is

pub returns-clause-nothing_counted : goal.returns-clause-nothing_counted
returns-clause-nothing_counted c = nothing_counted_is

pub returns-clause-no_front : goal.returns-clause-no_front
returns-clause-no_front c = no_front_is_none

pub returns-clause-exchanged : goal.returns-clause-exchanged
returns-clause-exchanged c = exchanged_is_none

pub returns-clause-never_done : goal.returns-clause-never_done
returns-clause-never_done c = never_done_is_none

pub returns-clause-too_many : goal.returns-clause-too_many
returns-clause-too_many c = too_many_are_none

pub returns-clause-other_connection : goal.returns-clause-other_connection
returns-clause-other_connection c = other_connection_is_none

pub returns-clause-no_connection : goal.returns-clause-no_connection
returns-clause-no_connection c = no_connection_is_none

pub returns-clause-asked_and_homed : goal.returns-clause-asked_and_homed
returns-clause-asked_and_homed c = asked_and_homed_is

pub returns-clause-asked_again : goal.returns-clause-asked_again
returns-clause-asked_again c = asked_again_is

pub returns-clause-other_answer : goal.returns-clause-other_answer
returns-clause-other_answer c = other_answer_is_none

pub returns-clause-passed_over : goal.returns-clause-passed_over
returns-clause-passed_over c = passed_over_is_none
