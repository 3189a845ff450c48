use Rattle.witness.proofs.Courses.{written_told}
use Rattle.witness.proofs.laws.what_is_written_was_reported.Goals as goal

pub returns : goal.returns
returns c = written_told
