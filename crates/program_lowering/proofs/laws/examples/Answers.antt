use Rattle.program_lowering.proofs.ExampleLemmas as example
use Rattle.program_lowering.proofs.laws.examples.Goals as goal

pub returns-clause-printing : goal.returns-clause-printing
returns-clause-printing c = example.printing

pub returns-clause-naming : goal.returns-clause-naming
returns-clause-naming c = example.naming

pub returns-clause-evaluating : goal.returns-clause-evaluating
returns-clause-evaluating c = example.evaluating

pub returns-clause-motion : goal.returns-clause-motion
returns-clause-motion c = example.motion

pub returns-clause-clearing : goal.returns-clause-clearing
returns-clause-clearing c = example.clearing

pub returns-clause-no_clearing : goal.returns-clause-no_clearing
returns-clause-no_clearing c = example.no_clearing

pub returns-clause-uncompensated : goal.returns-clause-uncompensated
returns-clause-uncompensated c = example.uncompensated

pub returns-clause-compensated : goal.returns-clause-compensated
returns-clause-compensated c = example.compensated

pub returns-clause-loop_stays : goal.returns-clause-loop_stays
returns-clause-loop_stays c = example.loop_stays

pub returns-clause-open_text : goal.returns-clause-open_text
returns-clause-open_text c = example.open_text

pub returns-clause-written : goal.returns-clause-written
returns-clause-written c = example.written
