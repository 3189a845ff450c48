use Rattle.std.proofs.Common.{refl}
use Rattle.tool_rack.specs.Fields.{fields_of}
use Rattle.link_world.specs.ScheduleTexts.{schedule_of, instruction_on, instruction_of, of_two}
use Rattle.link_world.proofs.texts.schedule_rows.lone_word_rows.Goals as goal

pub returns-clause-connect : goal.returns-clause-connect
unfolding schedule_of instruction_on instruction_of of_two fields_of
returns-clause-connect c = refl

pub returns-clause-client_sends : goal.returns-clause-client_sends
unfolding schedule_of instruction_on instruction_of of_two fields_of
returns-clause-client_sends c = refl

pub returns-clause-server_reads : goal.returns-clause-server_reads
unfolding schedule_of instruction_on instruction_of of_two fields_of
returns-clause-server_reads c = refl

pub returns-clause-server_turn : goal.returns-clause-server_turn
unfolding schedule_of instruction_on instruction_of of_two fields_of
returns-clause-server_turn c = refl

pub returns-clause-client_reads : goal.returns-clause-client_reads
unfolding schedule_of instruction_on instruction_of of_two fields_of
returns-clause-client_reads c = refl

pub returns-clause-client_leaves : goal.returns-clause-client_leaves
unfolding schedule_of instruction_on instruction_of of_two fields_of
returns-clause-client_leaves c = refl

pub returns-clause-server_leaves : goal.returns-clause-server_leaves
unfolding schedule_of instruction_on instruction_of of_two fields_of
returns-clause-server_leaves c = refl

pub returns-clause-abort : goal.returns-clause-abort
unfolding schedule_of instruction_on instruction_of of_two fields_of
returns-clause-abort c = refl

pub returns-clause-resume : goal.returns-clause-resume
unfolding schedule_of instruction_on instruction_of of_two fields_of
returns-clause-resume c = refl

pub returns-clause-server_restart : goal.returns-clause-server_restart
unfolding schedule_of instruction_on instruction_of of_two fields_of
returns-clause-server_restart c = refl

pub returns-clause-quiet : goal.returns-clause-quiet
unfolding schedule_of instruction_on instruction_of of_two fields_of
returns-clause-quiet c = refl

pub returns-clause-any_case : goal.returns-clause-any_case
unfolding schedule_of instruction_on instruction_of of_two fields_of
returns-clause-any_case c = refl

pub returns-clause-no_such_word : goal.returns-clause-no_such_word
unfolding schedule_of instruction_on instruction_of of_two fields_of
returns-clause-no_such_word c = refl

pub returns-clause-half_a_word : goal.returns-clause-half_a_word
unfolding schedule_of instruction_on instruction_of of_two fields_of
returns-clause-half_a_word c = refl

pub returns-clause-field_too_many : goal.returns-clause-field_too_many
unfolding schedule_of instruction_on instruction_of of_two fields_of
returns-clause-field_too_many c = refl

pub returns-clause-number_too_many : goal.returns-clause-number_too_many
unfolding schedule_of instruction_on instruction_of of_two fields_of
returns-clause-number_too_many c = refl

pub returns-clause-two_words : goal.returns-clause-two_words
unfolding schedule_of instruction_on instruction_of of_two fields_of
returns-clause-two_words c = refl
