use Rattle.std.proofs.Common.{refl}
use Rattle.drawings.proofs.drawn_examples.peaks_have_bars.Goals as goal

pub returns-clause-later : goal.returns-clause-later
returns-clause-later c = refl

pub returns-clause-first : goal.returns-clause-first
returns-clause-first c = refl

pub returns-clause-before : goal.returns-clause-before
returns-clause-before c = refl

pub returns-clause-after : goal.returns-clause-after
returns-clause-after c = refl

pub returns-clause-greatest : goal.returns-clause-greatest
returns-clause-greatest c = refl

pub returns-clause-least : goal.returns-clause-least
returns-clause-least c = refl

pub returns-clause-longest : goal.returns-clause-longest
returns-clause-longest c = refl

pub returns-clause-down : goal.returns-clause-down
returns-clause-down c = refl

pub returns-clause-right : goal.returns-clause-right
returns-clause-right c = refl

pub returns-clause-right_start : goal.returns-clause-right_start
returns-clause-right_start c = refl

pub returns-clause-left : goal.returns-clause-left
returns-clause-left c = refl

pub returns-clause-left_start : goal.returns-clause-left_start
returns-clause-left_start c = refl

pub returns-clause-none : goal.returns-clause-none
returns-clause-none c = refl
