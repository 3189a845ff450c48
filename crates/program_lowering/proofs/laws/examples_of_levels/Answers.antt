use Rattle.std.specs.Fmt.{digits}
use Rattle.dmis_program.specs.Keywords.{keyword_of}
use Rattle.dmis_program.specs.Parameters.{count_of, name_within}
use Rattle.dmis_program.specs.Sayings.{said_by, said_of}
use Rattle.fixed_um.specs.Written.{written_component}
use Rattle.program_flow.specs.Angles.{cosine, in_radians, series, sine}
use Rattle.program_flow.specs.Calls.{line_digits}
use Rattle.program_flow.specs.Numbers.{gcd_within, nearest_millionth, reduced}
use Rattle.program_flow.specs.Parts.{parts_of}
use Rattle.program_flow.specs.Values.{numeral_value, value_within}
use Rattle.program_lowering.specs.EvenTouches.{angle_text}
use Rattle.program_lowering.proofs.Names.{refl}
use Rattle.program_lowering.proofs.laws.examples_of_levels.Goals as goal

pub returns-clause-seven : goal.returns-clause-seven
unfolding angle_text cosine count_of digits gcd_within in_radians keyword_of line_digits name_within nearest_millionth numeral_value parts_of reduced said_by said_of series sine value_within written_component
returns-clause-seven c = refl

pub returns-clause-six : goal.returns-clause-six
unfolding angle_text cosine count_of digits gcd_within in_radians keyword_of line_digits name_within nearest_millionth numeral_value parts_of reduced said_by said_of series sine value_within written_component
returns-clause-six c = refl

pub returns-clause-first_way : goal.returns-clause-first_way
unfolding angle_text cosine count_of digits gcd_within in_radians keyword_of line_digits name_within nearest_millionth numeral_value parts_of reduced said_by said_of series sine value_within written_component
returns-clause-first_way c = refl

pub returns-clause-last_way : goal.returns-clause-last_way
unfolding angle_text cosine count_of digits gcd_within in_radians keyword_of line_digits name_within nearest_millionth numeral_value parts_of reduced said_by said_of series sine value_within written_component
returns-clause-last_way c = refl
