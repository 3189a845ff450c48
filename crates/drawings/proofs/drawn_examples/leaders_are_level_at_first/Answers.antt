use Rattle.std.proofs.Common.{arith, refl}
use Rattle.drawings.specs.Labels.{leader_text}
use Rattle.drawings.proofs.drawn_examples.leaders_are_level_at_first.Goals as goal

pub returns-clause-level : goal.returns-clause-level
unfolding leader_text
returns-clause-level c = refl

pub returns-clause-edge : goal.returns-clause-edge
returns-clause-edge c = λ d. let h = d.0 in omega (arith, h)

pub returns-clause-label : goal.returns-clause-label
returns-clause-label c = λ d. let h = d.1 in omega (arith, h)

pub returns-clause-count : goal.returns-clause-count
returns-clause-count c = λ d. d
