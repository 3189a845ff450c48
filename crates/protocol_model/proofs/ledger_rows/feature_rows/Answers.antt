use Rattle.protocol_model.proofs.worked_rows.LedgerRefused.{right_is, right_from, nothing_is, other_tool_is_none, other_frame_is_none}
use Rattle.protocol_model.proofs.worked_rows.LedgerRefused.{other_target_is_none, other_direction_is_none, no_direction_is_none}
use Rattle.protocol_model.proofs.worked_rows.LedgerRefused.{other_point_is_none, two_connections_are_none, other_label_is_none}
use Rattle.protocol_model.proofs.worked_rows.LedgerRefused.{fewer_points_are_none, no_points_are_none, more_points_are_none}
use Rattle.protocol_model.proofs.worked_rows.LedgerRefused.{exchanged_points_are_none, no_contact_is_none, more_features_are_none, both_are}
use Rattle.protocol_model.proofs.worked_rows.LedgerRefused.{first_left_out_is_none}
use Rattle.protocol_model.proofs.Names.{Part, part, Some}
use Rattle.protocol_model.proofs.ledger_rows.feature_rows.Goals as goal

pub returns-clause-right : goal.returns-clause-right
returns-clause-right c = right_is

pub returns-clause-any_origin : goal.returns-clause-any_origin
returns-clause-any_origin c = right_from (Some (record { connection = 7; frame = Part part }))

pub returns-clause-nothing_measured : goal.returns-clause-nothing_measured
returns-clause-nothing_measured c = nothing_is

pub returns-clause-other_tool : goal.returns-clause-other_tool
returns-clause-other_tool c = other_tool_is_none

pub returns-clause-other_frame : goal.returns-clause-other_frame
returns-clause-other_frame c = other_frame_is_none

pub returns-clause-other_target : goal.returns-clause-other_target
returns-clause-other_target c = other_target_is_none

pub returns-clause-other_direction : goal.returns-clause-other_direction
returns-clause-other_direction c = other_direction_is_none

pub returns-clause-no_direction : goal.returns-clause-no_direction
returns-clause-no_direction c = no_direction_is_none

pub returns-clause-other_point : goal.returns-clause-other_point
returns-clause-other_point c = other_point_is_none

pub returns-clause-two_connections : goal.returns-clause-two_connections
returns-clause-two_connections c = two_connections_are_none

pub returns-clause-other_label : goal.returns-clause-other_label
returns-clause-other_label c = other_label_is_none

pub returns-clause-fewer_points : goal.returns-clause-fewer_points
returns-clause-fewer_points c = fewer_points_are_none

pub returns-clause-no_points : goal.returns-clause-no_points
returns-clause-no_points c = no_points_are_none

pub returns-clause-more_points : goal.returns-clause-more_points
returns-clause-more_points c = more_points_are_none

pub returns-clause-points_exchanged : goal.returns-clause-points_exchanged
returns-clause-points_exchanged c = exchanged_points_are_none

pub returns-clause-no_contact : goal.returns-clause-no_contact
returns-clause-no_contact c = no_contact_is_none

pub returns-clause-more_features : goal.returns-clause-more_features
returns-clause-more_features c = more_features_are_none

pub returns-clause-both_features : goal.returns-clause-both_features
returns-clause-both_features c = both_are

pub returns-clause-first_left_out : goal.returns-clause-first_left_out
returns-clause-first_left_out c = first_left_out_is_none
