use Rattle.std.proofs.Common.{refl}
use Rattle.protocol_model.proofs.scripts.server_rows.Goals as goal

pub returns-clause-not_homed : goal.returns-clause-not_homed
returns-clause-not_homed c = refl

pub returns-clause-unknown_tool : goal.returns-clause-unknown_tool
returns-clause-unknown_tool c = refl

pub returns-clause-queue_full : goal.returns-clause-queue_full
returns-clause-queue_full c = refl

pub returns-clause-offset_alone_changes_nothing : goal.returns-clause-offset_alone_changes_nothing
returns-clause-offset_alone_changes_nothing c = refl

pub returns-clause-selected_frame : goal.returns-clause-selected_frame
returns-clause-selected_frame c = refl

pub returns-clause-restarted_without_tool : goal.returns-clause-restarted_without_tool
returns-clause-restarted_without_tool c = refl

pub returns-clause-error_state : goal.returns-clause-error_state
returns-clause-error_state c = refl

pub returns-clause-machine_fault : goal.returns-clause-machine_fault
returns-clause-machine_fault c = refl

pub returns-clause-tag_in_use : goal.returns-clause-tag_in_use
returns-clause-tag_in_use c = refl

pub returns-clause-no_tag : goal.returns-clause-no_tag
returns-clause-no_tag c = refl
