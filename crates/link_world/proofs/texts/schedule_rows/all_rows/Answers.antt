use Rattle.std.proofs.Common.{refl}
use Rattle.tool_rack.specs.Fields.{fields_of}
use Rattle.link_world.specs.ScheduleTexts.{schedule_of, instruction_on, instruction_of, of_two}
use Rattle.link_world.proofs.texts.schedule_rows.all_rows.Goals as goal

pub returns-clause-up : goal.returns-clause-up
unfolding schedule_of instruction_on instruction_of of_two fields_of
returns-clause-up c = refl

pub returns-clause-server_reads : goal.returns-clause-server_reads
unfolding schedule_of instruction_on instruction_of of_two fields_of
returns-clause-server_reads c = refl

pub returns-clause-down : goal.returns-clause-down
unfolding schedule_of instruction_on instruction_of of_two fields_of
returns-clause-down c = refl

pub returns-clause-client_reads : goal.returns-clause-client_reads
unfolding schedule_of instruction_on instruction_of of_two fields_of
returns-clause-client_reads c = refl

pub returns-clause-any_case : goal.returns-clause-any_case
unfolding schedule_of instruction_on instruction_of of_two fields_of
returns-clause-any_case c = refl

pub returns-clause-accept : goal.returns-clause-accept
unfolding schedule_of instruction_on instruction_of of_two fields_of
returns-clause-accept c = refl

pub returns-clause-client_restart : goal.returns-clause-client_restart
unfolding schedule_of instruction_on instruction_of of_two fields_of
returns-clause-client_restart c = refl

pub returns-clause-quiet : goal.returns-clause-quiet
unfolding schedule_of instruction_on instruction_of of_two fields_of
returns-clause-quiet c = refl

pub returns-clause-client_sends : goal.returns-clause-client_sends
unfolding schedule_of instruction_on instruction_of of_two fields_of
returns-clause-client_sends c = refl

pub returns-clause-machine : goal.returns-clause-machine
unfolding schedule_of instruction_on instruction_of of_two fields_of
returns-clause-machine c = refl

pub returns-clause-all_alone : goal.returns-clause-all_alone
unfolding schedule_of instruction_on instruction_of of_two fields_of
returns-clause-all_alone c = refl

pub returns-clause-number_behind : goal.returns-clause-number_behind
unfolding schedule_of instruction_on instruction_of of_two fields_of
returns-clause-number_behind c = refl
