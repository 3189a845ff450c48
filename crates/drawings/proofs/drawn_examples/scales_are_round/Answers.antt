use Rattle.std.proofs.Common.{arith, refl}
use Rattle.drawings.specs.Footer.{ratio_text}
use Rattle.drawings.specs.Scales.{denominator, numerator, on_paper}
use Rattle.drawings.specs.Texts.{millimetres}
use Rattle.drawings.proofs.drawn_examples.scales_are_round.Goals as goal

pub returns-clause-largest : goal.returns-clause-largest
unfolding numerator denominator
returns-clause-largest c = refl

pub returns-clause-larger : goal.returns-clause-larger
unfolding numerator denominator
returns-clause-larger c = refl

pub returns-clause-double : goal.returns-clause-double
unfolding numerator denominator
returns-clause-double c = refl

pub returns-clause-full : goal.returns-clause-full
unfolding numerator denominator
returns-clause-full c = refl

pub returns-clause-whole : goal.returns-clause-whole
unfolding numerator denominator
returns-clause-whole c = refl

pub returns-clause-half : goal.returns-clause-half
unfolding numerator denominator
returns-clause-half c = refl

pub returns-clause-smaller : goal.returns-clause-smaller
unfolding numerator denominator
returns-clause-smaller c = refl

pub returns-clause-third : goal.returns-clause-third
unfolding numerator denominator
returns-clause-third c = refl

pub returns-clause-quarter : goal.returns-clause-quarter
unfolding numerator denominator
returns-clause-quarter c = refl

pub returns-clause-fifth : goal.returns-clause-fifth
unfolding numerator denominator
returns-clause-fifth c = refl

pub returns-clause-tenth : goal.returns-clause-tenth
unfolding numerator denominator
returns-clause-tenth c = refl

pub returns-clause-smallest : goal.returns-clause-smallest
unfolding numerator denominator
returns-clause-smallest c = refl

pub returns-clause-ratio : goal.returns-clause-ratio
unfolding ratio_text millimetres numerator denominator
returns-clause-ratio c = refl

pub returns-clause-paper : goal.returns-clause-paper
unfolding on_paper numerator denominator
returns-clause-paper c = refl

pub returns-clause-whisker : goal.returns-clause-whisker
returns-clause-whisker c = omega arith
