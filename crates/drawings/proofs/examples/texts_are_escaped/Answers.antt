use Rattle.std.proofs.Common.{refl}
use Rattle.drawings.specs.Markup.{between}
use Rattle.drawings.specs.Texts.{markup}
use Rattle.drawings.proofs.examples.texts_are_escaped.Goals as goal

pub returns-clause-entities : goal.returns-clause-entities
unfolding between markup
returns-clause-entities c = refl

pub returns-clause-again : goal.returns-clause-again
unfolding between markup
returns-clause-again c = refl

pub returns-clause-cells : goal.returns-clause-cells
unfolding between markup
returns-clause-cells c = refl
