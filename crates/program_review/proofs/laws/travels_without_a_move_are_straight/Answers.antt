use Rattle.std.proofs.Common.{refl}
use Rattle.fixed_um.specs.Scan.{numeral_of, exponent_of}
use Rattle.dmis_program.specs.Keywords.{keyword_of}
use Rattle.dmis_program.specs.Parameters.{count_of, name_within}
use Rattle.dmis_program.specs.Positions.{position_of, length_of}
use Rattle.dmis_program.specs.Sayings.{said_of, said_by}
use Rattle.program_review.proofs.laws.travels_without_a_move_are_straight.Goals as goal

pub returns-clause-two : goal.returns-clause-two
unfolding keyword_of said_of said_by name_within count_of position_of length_of numeral_of exponent_of
returns-clause-two c = refl

pub returns-clause-three : goal.returns-clause-three
unfolding keyword_of said_of said_by name_within count_of position_of length_of numeral_of exponent_of
returns-clause-three c = refl

pub returns-clause-after_a_touch : goal.returns-clause-after_a_touch
unfolding keyword_of said_of said_by name_within count_of position_of length_of numeral_of exponent_of
returns-clause-after_a_touch c = refl

pub returns-clause-before_a_block : goal.returns-clause-before_a_block
unfolding keyword_of said_of said_by name_within count_of position_of length_of numeral_of exponent_of
returns-clause-before_a_block c = refl

pub returns-clause-in_a_block : goal.returns-clause-in_a_block
unfolding keyword_of said_of said_by name_within count_of position_of length_of numeral_of exponent_of
returns-clause-in_a_block c = refl

pub returns-clause-in_one_feature : goal.returns-clause-in_one_feature
unfolding keyword_of said_of said_by name_within count_of position_of length_of numeral_of exponent_of
returns-clause-in_one_feature c = refl
