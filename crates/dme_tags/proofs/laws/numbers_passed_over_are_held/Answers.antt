use Rattle.dme_tags.proofs.Passing.{passed_over}
use Rattle.dme_tags.proofs.laws.numbers_passed_over_are_held.Goals as goal

pub returns : goal.returns
returns c = passed_over
