use Rattle.std.proofs.Common.{refl}
use Rattle.drawings.proofs.drawn_examples.numbers_keep_their_room.Goals as goal

pub returns-clause-corner : goal.returns-clause-corner
returns-clause-corner c = refl

pub returns-clause-right : goal.returns-clause-right
returns-clause-right c = refl

pub returns-clause-left : goal.returns-clause-left
returns-clause-left c = refl

pub returns-clause-below : goal.returns-clause-below
returns-clause-below c = refl

pub returns-clause-above : goal.returns-clause-above
returns-clause-above c = refl

pub returns-clause-alone : goal.returns-clause-alone
returns-clause-alone c = refl

pub returns-clause-crowded : goal.returns-clause-crowded
returns-clause-crowded c = refl

pub returns-clause-none : goal.returns-clause-none
returns-clause-none c = refl
