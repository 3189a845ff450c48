use Rattle.std.proofs.Common.{refl}
use Rattle.drawings.proofs.drawn_examples.whiskers_have_colours.Goals as goal

pub returns-clause-red : goal.returns-clause-red
returns-clause-red c = refl

pub returns-clause-blue : goal.returns-clause-blue
returns-clause-blue c = refl

pub returns-clause-grey : goal.returns-clause-grey
returns-clause-grey c = refl

pub returns-clause-none : goal.returns-clause-none
returns-clause-none c = refl

pub returns-clause-along : goal.returns-clause-along
returns-clause-along c = refl

pub returns-clause-x : goal.returns-clause-x
returns-clause-x c = refl

pub returns-clause-y : goal.returns-clause-y
returns-clause-y c = refl

pub returns-clause-z : goal.returns-clause-z
returns-clause-z c = refl

pub returns-clause-without : goal.returns-clause-without
returns-clause-without c = refl

pub returns-clause-thin : goal.returns-clause-thin
returns-clause-thin c = refl

pub returns-clause-thick : goal.returns-clause-thick
returns-clause-thick c = refl
