use Rattle.std.proofs.Common.{refl}
use Rattle.fixed_um.specs.Scan.{numeral_of, exponent_of}
use Rattle.tool_rack.specs.Fields.{fields_of}
use Rattle.tool_rack.specs.Entries.{length_of}
use Rattle.link_world.specs.ScheduleTexts.{schedule_of, instruction_on, instruction_of, of_two}
use Rattle.link_world.proofs.texts.schedule_rows.machine_rows.Goals as goal

pub returns-clause-done : goal.returns-clause-done
unfolding schedule_of instruction_on instruction_of of_two fields_of length_of numeral_of exponent_of
returns-clause-done c = refl

pub returns-clause-missed : goal.returns-clause-missed
unfolding schedule_of instruction_on instruction_of of_two fields_of length_of numeral_of exponent_of
returns-clause-missed c = refl

pub returns-clause-fault : goal.returns-clause-fault
unfolding schedule_of instruction_on instruction_of of_two fields_of length_of numeral_of exponent_of
returns-clause-fault c = refl

pub returns-clause-auto : goal.returns-clause-auto
unfolding schedule_of instruction_on instruction_of of_two fields_of length_of numeral_of exponent_of
returns-clause-auto c = refl

pub returns-clause-touched : goal.returns-clause-touched
unfolding schedule_of instruction_on instruction_of of_two fields_of length_of numeral_of exponent_of
returns-clause-touched c = refl

pub returns-clause-any_case : goal.returns-clause-any_case
unfolding schedule_of instruction_on instruction_of of_two fields_of length_of numeral_of exponent_of
returns-clause-any_case c = refl

pub returns-clause-at_the_limit : goal.returns-clause-at_the_limit
unfolding schedule_of instruction_on instruction_of of_two fields_of length_of numeral_of exponent_of
returns-clause-at_the_limit c = refl

pub returns-clause-past_the_limit : goal.returns-clause-past_the_limit
unfolding schedule_of instruction_on instruction_of of_two fields_of length_of numeral_of exponent_of
returns-clause-past_the_limit c = refl

pub returns-clause-no_numeral : goal.returns-clause-no_numeral
unfolding schedule_of instruction_on instruction_of of_two fields_of length_of numeral_of exponent_of
returns-clause-no_numeral c = refl

pub returns-clause-two_numerals : goal.returns-clause-two_numerals
unfolding schedule_of instruction_on instruction_of of_two fields_of length_of numeral_of exponent_of
returns-clause-two_numerals c = refl

pub returns-clause-four_numerals : goal.returns-clause-four_numerals
unfolding schedule_of instruction_on instruction_of of_two fields_of length_of numeral_of exponent_of
returns-clause-four_numerals c = refl

pub returns-clause-no_point : goal.returns-clause-no_point
unfolding schedule_of instruction_on instruction_of of_two fields_of length_of numeral_of exponent_of
returns-clause-no_point c = refl

pub returns-clause-no_outcome : goal.returns-clause-no_outcome
unfolding schedule_of instruction_on instruction_of of_two fields_of length_of numeral_of exponent_of
returns-clause-no_outcome c = refl

pub returns-clause-other_outcome : goal.returns-clause-other_outcome
unfolding schedule_of instruction_on instruction_of of_two fields_of length_of numeral_of exponent_of
returns-clause-other_outcome c = refl

pub returns-clause-field_too_many : goal.returns-clause-field_too_many
unfolding schedule_of instruction_on instruction_of of_two fields_of length_of numeral_of exponent_of
returns-clause-field_too_many c = refl

pub returns-clause-three_too_many : goal.returns-clause-three_too_many
unfolding schedule_of instruction_on instruction_of of_two fields_of length_of numeral_of exponent_of
returns-clause-three_too_many c = refl

pub returns-clause-other_word : goal.returns-clause-other_word
unfolding schedule_of instruction_on instruction_of of_two fields_of length_of numeral_of exponent_of
returns-clause-other_word c = refl
