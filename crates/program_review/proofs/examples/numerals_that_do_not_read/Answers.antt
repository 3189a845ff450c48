use Rattle.std.proofs.Common.{refl}
use Rattle.fixed_um.specs.Scan.{numeral_of, exponent_of}
use Rattle.program_review.specs.Lengths.{length_fault}
use Rattle.program_review.specs.Numerals.{component_fault}
use Rattle.program_review.proofs.examples.numerals_that_do_not_read.Goals as goal

pub returns-clause-length : goal.returns-clause-length
unfolding numeral_of exponent_of length_fault component_fault
returns-clause-length c = refl

pub returns-clause-component : goal.returns-clause-component
unfolding numeral_of exponent_of length_fault component_fault
returns-clause-component c = refl

pub returns-clause-none : goal.returns-clause-none
unfolding numeral_of exponent_of length_fault component_fault
returns-clause-none c = refl

pub returns-clause-after_cart : goal.returns-clause-after_cart
unfolding numeral_of exponent_of length_fault component_fault
returns-clause-after_cart c = refl

pub returns-clause-empty : goal.returns-clause-empty
unfolding numeral_of exponent_of length_fault component_fault
returns-clause-empty c = refl
