use Rattle.std.specs.Fmt.{digits}
use Rattle.dmis_program.specs.Keywords.{keyword_of}
use Rattle.program_flow.specs.Blocks.{part_of}
use Rattle.program_flow.specs.Numbers.{gcd_within, multiplied, reduced}
use Rattle.program_flow.specs.Parts.{parts_of}
use Rattle.program_flow.specs.Texts.{expanded_within}
use Rattle.program_flow.specs.Values.{numeral_value, value_within}
use Rattle.program_lowering.proofs.Names.{refl}
use Rattle.program_lowering.proofs.laws.examples_of_values.Goals as goal

pub returns-clause-named : goal.returns-clause-named
unfolding digits expanded_within gcd_within keyword_of multiplied numeral_value part_of parts_of reduced value_within
returns-clause-named c = refl
