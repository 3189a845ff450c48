use Rattle.program_lowering.proofs.ExampleLemmas as example
use Rattle.program_lowering.proofs.laws.examples_of_frames.Goals as goal

pub returns-clause-selecting : goal.returns-clause-selecting
returns-clause-selecting c = example.frames_selecting

pub returns-clause-unasked : goal.returns-clause-unasked
returns-clause-unasked c = example.frames_unasked

pub returns-clause-others : goal.returns-clause-others
returns-clause-others c = example.frames_others

pub returns-clause-setup : goal.returns-clause-setup
returns-clause-setup c = example.frames_setup

pub returns-clause-setup_unasked : goal.returns-clause-setup_unasked
returns-clause-setup_unasked c = example.frames_setup_unasked

pub returns-clause-saved : goal.returns-clause-saved
returns-clause-saved c = example.frames_saved

pub returns-clause-nearest : goal.returns-clause-nearest
returns-clause-nearest c = example.frame_nearest

pub returns-clause-before : goal.returns-clause-before
returns-clause-before c = example.frame_before

pub returns-clause-listed : goal.returns-clause-listed
returns-clause-listed c = example.frames_listed
