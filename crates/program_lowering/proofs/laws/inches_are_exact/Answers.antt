use Rattle.std.proofs.Common.{refl, Ok}
use Rattle.program_lowering.proofs.InchLemmas.{inch_exact, length_in}
use Rattle.program_lowering.proofs.laws.inches_are_exact.Goals as goal

pub returns-clause-nearest : goal.returns-clause-nearest
returns-clause-nearest c = inch_exact

pub returns-clause-written : goal.returns-clause-written
returns-clause-written c text z h = length_in text (Ok z) h

pub returns-clause-one_inch : goal.returns-clause-one_inch
returns-clause-one_inch c = refl

pub returns-clause-ten_thousandth : goal.returns-clause-ten_thousandth
returns-clause-ten_thousandth c = refl
