use Rattle.std.proofs.Common.{refl}
use Rattle.tool_rack.specs.Fields.{fields_of}
use Rattle.link_world.specs.ScheduleTexts.{schedule_of, instruction_on, instruction_of, of_two}
use Rattle.link_world.proofs.texts.schedule_rows.line_rows.Goals as goal

pub returns-clause-nothing : goal.returns-clause-nothing
unfolding schedule_of instruction_on instruction_of of_two fields_of
returns-clause-nothing c = refl

pub returns-clause-in_order : goal.returns-clause-in_order
unfolding schedule_of instruction_on instruction_of of_two fields_of
returns-clause-in_order c = refl

pub returns-clause-ended : goal.returns-clause-ended
unfolding schedule_of instruction_on instruction_of of_two fields_of
returns-clause-ended c = refl

pub returns-clause-return_and_feed : goal.returns-clause-return_and_feed
unfolding schedule_of instruction_on instruction_of of_two fields_of
returns-clause-return_and_feed c = refl

pub returns-clause-return_alone : goal.returns-clause-return_alone
unfolding schedule_of instruction_on instruction_of of_two fields_of
returns-clause-return_alone c = refl

pub returns-clause-spaces_between : goal.returns-clause-spaces_between
unfolding schedule_of instruction_on instruction_of of_two fields_of
returns-clause-spaces_between c = refl

pub returns-clause-tab_between : goal.returns-clause-tab_between
unfolding schedule_of instruction_on instruction_of of_two fields_of
returns-clause-tab_between c = refl

pub returns-clause-space_in_front : goal.returns-clause-space_in_front
unfolding schedule_of instruction_on instruction_of of_two fields_of
returns-clause-space_in_front c = refl

pub returns-clause-space_behind : goal.returns-clause-space_behind
unfolding schedule_of instruction_on instruction_of of_two fields_of
returns-clause-space_behind c = refl

pub returns-clause-spaces_alone : goal.returns-clause-spaces_alone
unfolding schedule_of instruction_on instruction_of of_two fields_of
returns-clause-spaces_alone c = refl

pub returns-clause-remark : goal.returns-clause-remark
unfolding schedule_of instruction_on instruction_of of_two fields_of
returns-clause-remark c = refl

pub returns-clause-remark_behind_a_space : goal.returns-clause-remark_behind_a_space
unfolding schedule_of instruction_on instruction_of of_two fields_of
returns-clause-remark_behind_a_space c = refl

pub returns-clause-remark_behind_a_word : goal.returns-clause-remark_behind_a_word
unfolding schedule_of instruction_on instruction_of of_two fields_of
returns-clause-remark_behind_a_word c = refl

pub returns-clause-dropped_are_counted : goal.returns-clause-dropped_are_counted
unfolding schedule_of instruction_on instruction_of of_two fields_of
returns-clause-dropped_are_counted c = refl

pub returns-clause-first_of_two : goal.returns-clause-first_of_two
unfolding schedule_of instruction_on instruction_of of_two fields_of
returns-clause-first_of_two c = refl

pub returns-clause-behind_a_refused_line : goal.returns-clause-behind_a_refused_line
unfolding schedule_of instruction_on instruction_of of_two fields_of
returns-clause-behind_a_refused_line c = refl
