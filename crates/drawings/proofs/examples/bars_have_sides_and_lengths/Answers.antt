use Rattle.std.proofs.Common.{refl}
use Rattle.drawings.specs.BarCells.{bar_of}
use Rattle.drawings.specs.Texts.{markup}
use Rattle.drawings.proofs.examples.bars_have_sides_and_lengths.Goals as goal

pub returns-clause-right : goal.returns-clause-right
unfolding bar_of markup
returns-clause-right c = refl

pub returns-clause-left : goal.returns-clause-left
unfolding bar_of markup
returns-clause-left c = refl

pub returns-clause-longest : goal.returns-clause-longest
unfolding bar_of markup
returns-clause-longest c = refl

pub returns-clause-down : goal.returns-clause-down
unfolding bar_of markup
returns-clause-down c = refl

pub returns-clause-within : goal.returns-clause-within
unfolding bar_of markup
returns-clause-within c = refl

pub returns-clause-greatest : goal.returns-clause-greatest
unfolding bar_of markup
returns-clause-greatest c = refl

pub returns-clause-least : goal.returns-clause-least
unfolding bar_of markup
returns-clause-least c = refl

pub returns-clause-cell : goal.returns-clause-cell
unfolding bar_of markup
returns-clause-cell c = refl

pub returns-clause-none : goal.returns-clause-none
unfolding bar_of markup
returns-clause-none c = refl
