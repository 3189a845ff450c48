use Rattle.program_lowering.proofs.ExampleLemmas as example
use Rattle.program_lowering.proofs.laws.examples_of_manual_blocks.Goals as goal

pub returns-clause-skipped : goal.returns-clause-skipped
returns-clause-skipped c = example.manual_skipped

pub returns-clause-unasked : goal.returns-clause-unasked
returns-clause-unasked c = example.manual_unasked

pub returns-clause-again : goal.returns-clause-again
returns-clause-again c = example.manual_again

pub returns-clause-ended : goal.returns-clause-ended
returns-clause-ended c = example.manual_ended

pub returns-clause-automatic : goal.returns-clause-automatic
returns-clause-automatic c = example.manual_automatic

pub returns-clause-scanned : goal.returns-clause-scanned
returns-clause-scanned c = example.manual_scanned

pub returns-clause-looped : goal.returns-clause-looped
returns-clause-looped c = example.manual_looped

pub returns-clause-open : goal.returns-clause-open
returns-clause-open c = example.manual_open
