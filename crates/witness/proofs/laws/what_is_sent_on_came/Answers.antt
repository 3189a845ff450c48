use Rattle.witness.proofs.Courses.{up_came, down_came}
use Rattle.witness.proofs.laws.what_is_sent_on_came.Goals as goal

pub returns : goal.returns
returns c = record { up = up_came; down = down_came }
