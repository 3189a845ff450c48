use Rattle.witness.proofs.Courses.{recorded}
use Rattle.witness.proofs.laws.recordings_are_heard.Goals as goal

pub returns : goal.returns
returns c = recorded
