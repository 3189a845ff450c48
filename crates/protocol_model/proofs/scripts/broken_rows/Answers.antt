use Rattle.std.proofs.Common.{refl}
use Rattle.protocol_model.proofs.scripts.broken_rows.Goals as goal

pub returns-clause-left_at_once : goal.returns-clause-left_at_once
returns-clause-left_at_once c = refl

pub returns-clause-left_inside_a_feature : goal.returns-clause-left_inside_a_feature
returns-clause-left_inside_a_feature c = refl

pub returns-clause-left_inside_a_touch : goal.returns-clause-left_inside_a_touch
returns-clause-left_inside_a_touch c = refl

pub returns-clause-left_unread : goal.returns-clause-left_unread
returns-clause-left_unread c = refl

pub returns-clause-nothing_waits : goal.returns-clause-nothing_waits
returns-clause-nothing_waits c = refl

pub returns-clause-nothing_runs : goal.returns-clause-nothing_runs
returns-clause-nothing_runs c = refl

pub returns-clause-left_by_the_client_first : goal.returns-clause-left_by_the_client_first
returns-clause-left_by_the_client_first c = refl

pub returns-clause-both_restarted : goal.returns-clause-both_restarted
returns-clause-both_restarted c = refl
