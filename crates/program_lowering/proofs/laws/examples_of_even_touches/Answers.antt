use Rattle.std.specs.Fmt.{digits}
use Rattle.dmis_program.specs.Keywords.{keyword_of}
use Rattle.dmis_program.specs.Parameters.{count_of, name_within}
use Rattle.dmis_program.specs.Sayings.{said_by, said_of}
use Rattle.fixed_um.specs.Written.{written_component}
use Rattle.program_flow.specs.Angles.{cosine, in_radians, series, sine}
use Rattle.program_flow.specs.Calls.{line_digits}
use Rattle.program_flow.specs.Numbers.{gcd_within, nearest_millionth, reduced}
use Rattle.program_flow.specs.Parts.{parts_of}
use Rattle.program_flow.specs.Values.{numeral_value, value_within}
use Rattle.program_lowering.specs.EvenTouches.{angle_text}
use Rattle.program_lowering.proofs.Names.{refl}
use Rattle.program_lowering.proofs.laws.examples_of_even_touches.Goals as goal

pub returns-clause-four : goal.returns-clause-four
unfolding angle_text cosine count_of digits gcd_within in_radians keyword_of line_digits name_within nearest_millionth numeral_value parts_of reduced said_by said_of series sine value_within written_component
returns-clause-four c = refl

pub returns-clause-three : goal.returns-clause-three
unfolding angle_text cosine count_of digits gcd_within in_radians keyword_of line_digits name_within nearest_millionth numeral_value parts_of reduced said_by said_of series sine value_within written_component
returns-clause-three c = refl

pub returns-clause-second_plane : goal.returns-clause-second_plane
unfolding angle_text cosine count_of digits gcd_within in_radians keyword_of line_digits name_within nearest_millionth numeral_value parts_of reduced said_by said_of series sine value_within written_component
returns-clause-second_plane c = refl

pub returns-clause-third_plane : goal.returns-clause-third_plane
unfolding angle_text cosine count_of digits gcd_within in_radians keyword_of line_digits name_within nearest_millionth numeral_value parts_of reduced said_by said_of series sine value_within written_component
returns-clause-third_plane c = refl
