-- The run that is begun of a record (this profile).
use Rattle.std.specs.Prelude.{ℕ, List}
use Rattle.dme_words.specs.declared.orders.Run.{Run}
use Rattle.dmis_program.specs.Meaning.{Meaning}
use Rattle.record_text.specs.Recordings.{Pair}
use Rattle.record_text.specs.declared.opening.Beginning.{Beginning}
use Rattle.run_session.specs.Killed.{IsBegun}
use Rattle.run_opening.specs.Openings.{Answered, IsProgramOf, KeepsFile, part_of}

-- a run begins, of the program that was read and over a record that had these bytes, with the features of its file
pub record IsRunBegun (run : Run) (a : Answered) (bytes : List ℕ) (pair : Pair) : Type 0 where
  pub p : Meaning
  pub program : IsProgramOf p a
  pub b : Beginning
  pub kept : KeepsFile run a b
  pub begun : IsBegun p (part_of run) bytes b run.window pair
