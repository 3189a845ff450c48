use Rattle.std.proofs.Common.{refl}
use Rattle.protocol_model.proofs.scripts.aborted_rows.Goals as goal

pub returns-clause-change_answered : goal.returns-clause-change_answered
returns-clause-change_answered c = refl

pub returns-clause-change_aborted : goal.returns-clause-change_aborted
returns-clause-change_aborted c = refl

pub returns-clause-change_resumed : goal.returns-clause-change_resumed
returns-clause-change_resumed c = refl

pub returns-clause-waiting_answered : goal.returns-clause-waiting_answered
returns-clause-waiting_answered c = refl

pub returns-clause-waiting_aborted : goal.returns-clause-waiting_aborted
returns-clause-waiting_aborted c = refl

pub returns-clause-waiting_without_tool : goal.returns-clause-waiting_without_tool
returns-clause-waiting_without_tool c = refl

pub returns-clause-waiting_resumed : goal.returns-clause-waiting_resumed
returns-clause-waiting_resumed c = refl

pub returns-clause-frame_resumed : goal.returns-clause-frame_resumed
returns-clause-frame_resumed c = refl

pub returns-clause-frame_report : goal.returns-clause-frame_report
returns-clause-frame_report c = refl

pub returns-clause-not_aborted_twice : goal.returns-clause-not_aborted_twice
returns-clause-not_aborted_twice c = refl

pub returns-clause-not_resumed_while_running : goal.returns-clause-not_resumed_while_running
returns-clause-not_resumed_while_running c = refl

pub returns-clause-not_resumed_without_a_session : goal.returns-clause-not_resumed_without_a_session
returns-clause-not_resumed_without_a_session c = refl
