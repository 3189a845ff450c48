use Rattle.std.specs.Fmt.{digits}
use Rattle.program_flow.specs.Numbers.{gcd_within, multiplied, reduced}
use Rattle.program_flow.specs.Parts.{parts_of}
use Rattle.program_flow.specs.Texts.{expanded_within}
use Rattle.program_flow.specs.Values.{numeral_value, value_within}
use Rattle.program_lowering.proofs.Names.{refl}
use Rattle.program_lowering.proofs.laws.examples_of_labels.Goals as goal

pub returns-clause-same : goal.returns-clause-same
unfolding digits expanded_within gcd_within multiplied numeral_value parts_of reduced value_within
returns-clause-same c = refl

pub returns-clause-other : goal.returns-clause-other
unfolding digits expanded_within gcd_within multiplied numeral_value parts_of reduced value_within
returns-clause-other c = refl

pub returns-clause-of_feature : goal.returns-clause-of_feature
unfolding digits expanded_within gcd_within multiplied numeral_value parts_of reduced value_within
returns-clause-of_feature c = refl

pub returns-clause-same_value : goal.returns-clause-same_value
unfolding digits expanded_within gcd_within multiplied numeral_value parts_of reduced value_within
returns-clause-same_value c = refl
