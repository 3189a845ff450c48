use Rattle.program_lowering.proofs.ExampleLemmas as example
use Rattle.program_lowering.proofs.laws.examples_of_units.Goals as goal

pub returns-clause-inch : goal.returns-clause-inch
returns-clause-inch c = example.unit_inch

pub returns-clause-other : goal.returns-clause-other
returns-clause-other c = example.unit_other

pub returns-clause-on : goal.returns-clause-on
returns-clause-on c = example.unit_on

pub returns-clause-off : goal.returns-clause-off
returns-clause-off c = example.unit_off

pub returns-clause-polar : goal.returns-clause-polar
returns-clause-polar c = example.unit_polar
