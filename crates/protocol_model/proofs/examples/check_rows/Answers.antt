use Rattle.std.proofs.Common.{refl}
use Rattle.protocol_model.proofs.examples.check_rows.Goals as goal

pub returns-clause-no_session_touch : goal.returns-clause-no_session_touch
returns-clause-no_session_touch c = refl

pub returns-clause-no_session_move : goal.returns-clause-no_session_move
returns-clause-no_session_move c = refl

pub returns-clause-no_session_tool : goal.returns-clause-no_session_tool
returns-clause-no_session_tool c = refl

pub returns-clause-no_session_home : goal.returns-clause-no_session_home
returns-clause-no_session_home c = refl

pub returns-clause-no_session_end : goal.returns-clause-no_session_end
returns-clause-no_session_end c = refl

pub returns-clause-no_session_report : goal.returns-clause-no_session_report
returns-clause-no_session_report c = refl

pub returns-clause-cleared_without_a_session : goal.returns-clause-cleared_without_a_session
returns-clause-cleared_without_a_session c = refl

pub returns-clause-session_begins : goal.returns-clause-session_begins
returns-clause-session_begins c = refl

pub returns-clause-session_is_open : goal.returns-clause-session_is_open
returns-clause-session_is_open c = refl

pub returns-clause-not_homed_unknown_tool : goal.returns-clause-not_homed_unknown_tool
returns-clause-not_homed_unknown_tool c = refl

pub returns-clause-not_homed_touch : goal.returns-clause-not_homed_touch
returns-clause-not_homed_touch c = refl

pub returns-clause-not_homed_move : goal.returns-clause-not_homed_move
returns-clause-not_homed_move c = refl

pub returns-clause-homed_unknown_tool : goal.returns-clause-homed_unknown_tool
returns-clause-homed_unknown_tool c = refl

pub returns-clause-no_tool_touch : goal.returns-clause-no_tool_touch
returns-clause-no_tool_touch c = refl

pub returns-clause-no_tool_move : goal.returns-clause-no_tool_move
returns-clause-no_tool_move c = refl

pub returns-clause-ready_touch : goal.returns-clause-ready_touch
returns-clause-ready_touch c = refl

pub returns-clause-frame_outside : goal.returns-clause-frame_outside
returns-clause-frame_outside c = refl

pub returns-clause-frame_inside : goal.returns-clause-frame_inside
returns-clause-frame_inside c = refl

pub returns-clause-at_the_limit : goal.returns-clause-at_the_limit
returns-clause-at_the_limit c = refl
