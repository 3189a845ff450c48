use Rattle.std.proofs.Common.{refl}
use Rattle.drawings.specs.Pages.{complete_text}
use Rattle.drawings.specs.Markup.{between}
use Rattle.drawings.specs.Texts.{markup}
use Rattle.drawings.proofs.examples.missing_features_are_named.Goals as goal

pub returns-clause-all : goal.returns-clause-all
unfolding complete_text between markup
returns-clause-all c = refl

pub returns-clause-some : goal.returns-clause-some
unfolding complete_text between markup
returns-clause-some c = refl

pub returns-clause-names : goal.returns-clause-names
unfolding complete_text between markup
returns-clause-names c = refl

pub returns-clause-heading : goal.returns-clause-heading
unfolding complete_text between markup
returns-clause-heading c = refl

pub returns-clause-plain : goal.returns-clause-plain
unfolding complete_text between markup
returns-clause-plain c = refl
