use Rattle.record_text.proofs.Tells.{told_are_sound, told_ends_unfinished, counted_were_told}
use Rattle.record_text.proofs.run_laws.held_features_are_true_of_what_was_told.Goals as goal

pub returns-clause-sound : goal.returns-clause-sound
returns-clause-sound c = told_are_sound

pub returns-clause-unfinished : goal.returns-clause-unfinished
returns-clause-unfinished c = told_ends_unfinished

pub returns-clause-counted : goal.returns-clause-counted
returns-clause-counted c = counted_were_told
