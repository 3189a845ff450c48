use Rattle.std.proofs.Common.{refl}
use Rattle.drawings.proofs.drawn_examples.views_show_touches.Goals as goal

pub returns-clause-touches : goal.returns-clause-touches
returns-clause-touches c = refl

pub returns-clause-moves : goal.returns-clause-moves
returns-clause-moves c = refl
