use Rattle.witness.proofs.SameRuns.{runs_told, sound_told, told_runs, told_sound}
use Rattle.witness.proofs.laws.audits_are_of_what_was_reported.Goals as goal

pub returns : goal.returns
returns c = record {
  sound = λ entries ledger wanted features made. (sound_told entries ledger wanted features made, told_sound entries ledger wanted features made);
  runs = λ entries ledger wanted features starts made.
      (runs_told entries ledger wanted features starts 0 made, told_runs entries ledger wanted features starts 0 made);
}
