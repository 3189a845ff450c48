use Rattle.std.proofs.Common.{refl}
use Rattle.tool_rack.specs.Fields.{fields_of}
use Rattle.link_world.specs.ScheduleTexts.{schedule_of, instruction_on, instruction_of, of_two}
use Rattle.link_world.proofs.texts.schedule_rows.number_rows.Goals as goal

pub returns-clause-accept : goal.returns-clause-accept
unfolding schedule_of instruction_on instruction_of of_two fields_of
returns-clause-accept c = refl

pub returns-clause-up : goal.returns-clause-up
unfolding schedule_of instruction_on instruction_of of_two fields_of
returns-clause-up c = refl

pub returns-clause-down : goal.returns-clause-down
unfolding schedule_of instruction_on instruction_of of_two fields_of
returns-clause-down c = refl

pub returns-clause-client_restart : goal.returns-clause-client_restart
unfolding schedule_of instruction_on instruction_of of_two fields_of
returns-clause-client_restart c = refl

pub returns-clause-quiet : goal.returns-clause-quiet
unfolding schedule_of instruction_on instruction_of of_two fields_of
returns-clause-quiet c = refl

pub returns-clause-any_case : goal.returns-clause-any_case
unfolding schedule_of instruction_on instruction_of of_two fields_of
returns-clause-any_case c = refl

pub returns-clause-zero : goal.returns-clause-zero
unfolding schedule_of instruction_on instruction_of of_two fields_of
returns-clause-zero c = refl

pub returns-clause-no_rounds : goal.returns-clause-no_rounds
unfolding schedule_of instruction_on instruction_of of_two fields_of
returns-clause-no_rounds c = refl

pub returns-clause-zeros_in_front : goal.returns-clause-zeros_in_front
unfolding schedule_of instruction_on instruction_of of_two fields_of
returns-clause-zeros_in_front c = refl

pub returns-clause-ten_digits : goal.returns-clause-ten_digits
unfolding schedule_of instruction_on instruction_of of_two fields_of
returns-clause-ten_digits c = refl

pub returns-clause-most_rounds : goal.returns-clause-most_rounds
unfolding schedule_of instruction_on instruction_of of_two fields_of
returns-clause-most_rounds c = refl

pub returns-clause-rounds_too_many : goal.returns-clause-rounds_too_many
unfolding schedule_of instruction_on instruction_of of_two fields_of
returns-clause-rounds_too_many c = refl

pub returns-clause-eleven_digits : goal.returns-clause-eleven_digits
unfolding schedule_of instruction_on instruction_of of_two fields_of
returns-clause-eleven_digits c = refl

pub returns-clause-eleven_with_zeros : goal.returns-clause-eleven_with_zeros
unfolding schedule_of instruction_on instruction_of of_two fields_of
returns-clause-eleven_with_zeros c = refl

pub returns-clause-no_number : goal.returns-clause-no_number
unfolding schedule_of instruction_on instruction_of of_two fields_of
returns-clause-no_number c = refl

pub returns-clause-letter : goal.returns-clause-letter
unfolding schedule_of instruction_on instruction_of of_two fields_of
returns-clause-letter c = refl

pub returns-clause-digits_and_letter : goal.returns-clause-digits_and_letter
unfolding schedule_of instruction_on instruction_of of_two fields_of
returns-clause-digits_and_letter c = refl

pub returns-clause-sign : goal.returns-clause-sign
unfolding schedule_of instruction_on instruction_of of_two fields_of
returns-clause-sign c = refl

pub returns-clause-point : goal.returns-clause-point
unfolding schedule_of instruction_on instruction_of of_two fields_of
returns-clause-point c = refl

pub returns-clause-two_numbers : goal.returns-clause-two_numbers
unfolding schedule_of instruction_on instruction_of of_two fields_of
returns-clause-two_numbers c = refl

pub returns-clause-other_word : goal.returns-clause-other_word
unfolding schedule_of instruction_on instruction_of of_two fields_of
returns-clause-other_word c = refl
