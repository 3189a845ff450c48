use Rattle.witness.proofs.SameRuns.{run_told, told_run, sound_told, told_sound}
use Rattle.witness.proofs.told_laws.runs_are_those_of_what_was_reported.Goals as goal

pub returns-clause-run : goal.returns-clause-run
returns-clause-run c = λ entries ledger w f s made. (run_told entries ledger w f s made, told_run entries ledger w f s made)

pub returns-clause-sound : goal.returns-clause-sound
returns-clause-sound c = λ entries ledger ws fs made. (sound_told entries ledger ws fs made, told_sound entries ledger ws fs made)
