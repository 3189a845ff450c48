use Rattle.std.specs.Fmt.{digits}
use Rattle.dmis_program.specs.Keywords.{keyword_of}
use Rattle.dmis_program.specs.Parameters.{count_of, name_within}
use Rattle.dmis_program.specs.Sayings.{said_by, said_of}
use Rattle.fixed_um.specs.Written.{written_component}
use Rattle.program_flow.specs.Angles.{cosine, in_radians, series, sine}
use Rattle.program_flow.specs.Blocks.{part_of}
use Rattle.program_flow.specs.Calls.{line_digits}
use Rattle.program_flow.specs.Numbers.{gcd_within, nearest_millionth, reduced}
use Rattle.program_flow.specs.Parts.{parts_of}
use Rattle.program_flow.specs.Values.{numeral_value, value_within}
use Rattle.program_lowering.specs.EvenTouches.{angle_text}
use Rattle.program_lowering.proofs.Names.{refl}
use Rattle.program_lowering.proofs.PassLemmas.{no_room}
use Rattle.program_lowering.proofs.laws.examples_of_passes.Goals as goal

pub returns-clause-rounds : goal.returns-clause-rounds
unfolding keyword_of
returns-clause-rounds c = refl

pub returns-clause-calls : goal.returns-clause-calls
unfolding keyword_of
returns-clause-calls c = refl

pub returns-clause-filled : goal.returns-clause-filled
unfolding angle_text cosine count_of digits gcd_within in_radians keyword_of line_digits name_within nearest_millionth numeral_value part_of parts_of reduced said_by said_of series sine value_within written_component
returns-clause-filled c = refl

pub returns-clause-left_out : goal.returns-clause-left_out
unfolding keyword_of part_of
returns-clause-left_out c = refl

pub returns-clause-first : goal.returns-clause-first
returns-clause-first c line = refl

pub returns-clause-second : goal.returns-clause-second
unfolding digits
returns-clause-second c = refl

pub returns-clause-no_room : goal.returns-clause-no_room
returns-clause-no_room c = no_room
