use Rattle.program_lowering.proofs.ExampleLemmas as example
use Rattle.program_lowering.proofs.laws.examples_of_systems_made_again.Goals as goal

pub returns-clause-in_a_row : goal.returns-clause-in_a_row
returns-clause-in_a_row c = example.again_in_a_row

pub returns-clause-touched : goal.returns-clause-touched
returns-clause-touched c = example.again_touched

pub returns-clause-recalled_before : goal.returns-clause-recalled_before
returns-clause-recalled_before c = example.again_recalled_before

pub returns-clause-long_before : goal.returns-clause-long_before
returns-clause-long_before c = example.again_long_before

pub returns-clause-another : goal.returns-clause-another
returns-clause-another c = example.again_another

pub returns-clause-recalled : goal.returns-clause-recalled
returns-clause-recalled c = example.again_recalled

pub returns-clause-manual : goal.returns-clause-manual
returns-clause-manual c = example.again_manual

pub returns-clause-refused : goal.returns-clause-refused
returns-clause-refused c = example.again_refused
