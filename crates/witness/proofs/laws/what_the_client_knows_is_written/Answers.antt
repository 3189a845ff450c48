use Rattle.witness.proofs.Courses.{all_written}
use Rattle.witness.proofs.laws.what_the_client_knows_is_written.Goals as goal

pub returns : goal.returns
returns c = all_written
