use Rattle.std.proofs.Common.{refl}
use Rattle.drawings.specs.Markup.{between}
use Rattle.drawings.specs.Texts.{markup}
use Rattle.drawings.proofs.examples.audits_are_said.Goals as goal

pub returns-clause-passed : goal.returns-clause-passed
unfolding between markup
returns-clause-passed c = refl

pub returns-clause-failed : goal.returns-clause-failed
unfolding between markup
returns-clause-failed c = refl

pub returns-clause-nothing : goal.returns-clause-nothing
unfolding between markup
returns-clause-nothing c = refl

pub returns-clause-none : goal.returns-clause-none
unfolding between markup
returns-clause-none c = refl

pub returns-clause-errors : goal.returns-clause-errors
unfolding between markup
returns-clause-errors c = refl

pub returns-clause-noted : goal.returns-clause-noted
unfolding between markup
returns-clause-noted c = refl
