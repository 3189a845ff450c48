use Rattle.std.proofs.Common.{refl}
use Rattle.fixed_um.specs.Scan.{numeral_of, exponent_of}
use Rattle.dmis_program.specs.Keywords.{keyword_of}
use Rattle.dmis_program.specs.Parameters.{name_within}
use Rattle.dmis_program.specs.Positions.{position_of, length_of}
use Rattle.dmis_program.specs.Sayings.{said_of, said_by}
use Rattle.program_review.proofs.laws.recalls_of_frames_become_commands.Goals as goal

pub returns-clause-frame : goal.returns-clause-frame
unfolding keyword_of said_of said_by name_within position_of length_of numeral_of exponent_of
returns-clause-frame c = refl

pub returns-clause-sensor : goal.returns-clause-sensor
unfolding keyword_of said_of said_by name_within position_of length_of numeral_of exponent_of
returns-clause-sensor c = refl

pub returns-clause-sensors : goal.returns-clause-sensors
unfolding keyword_of said_of said_by name_within position_of length_of numeral_of exponent_of
returns-clause-sensors c = refl

pub returns-clause-alignment : goal.returns-clause-alignment
unfolding keyword_of said_of said_by name_within position_of length_of numeral_of exponent_of
returns-clause-alignment c = refl

pub returns-clause-again : goal.returns-clause-again
unfolding keyword_of said_of said_by name_within position_of length_of numeral_of exponent_of
returns-clause-again c = refl
