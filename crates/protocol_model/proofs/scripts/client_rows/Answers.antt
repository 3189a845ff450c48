use Rattle.std.proofs.Common.{refl}
use Rattle.protocol_model.proofs.scripts.client_rows.Goals as goal

pub returns-clause-unknown_tag : goal.returns-clause-unknown_tag
returns-clause-unknown_tag c = refl

pub returns-clause-no_data : goal.returns-clause-no_data
returns-clause-no_data c = refl

pub returns-clause-second_data : goal.returns-clause-second_data
returns-clause-second_data c = refl

pub returns-clause-out_of_order : goal.returns-clause-out_of_order
returns-clause-out_of_order c = refl

pub returns-clause-faulted : goal.returns-clause-faulted
returns-clause-faulted c = refl

pub returns-clause-one_at_a_time : goal.returns-clause-one_at_a_time
returns-clause-one_at_a_time c = refl

pub returns-clause-clearing_waits : goal.returns-clause-clearing_waits
returns-clause-clearing_waits c = refl

pub returns-clause-two_of_three : goal.returns-clause-two_of_three
returns-clause-two_of_three c = refl

pub returns-clause-three_of_three : goal.returns-clause-three_of_three
returns-clause-three_of_three c = refl

pub returns-clause-nothing_due_behind_a_failure : goal.returns-clause-nothing_due_behind_a_failure
returns-clause-nothing_due_behind_a_failure c = refl

pub returns-clause-tags_come_round : goal.returns-clause-tags_come_round
returns-clause-tags_come_round c = refl

pub returns-clause-held_tag_is_passed_over : goal.returns-clause-held_tag_is_passed_over
returns-clause-held_tag_is_passed_over c = refl
