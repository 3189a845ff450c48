use Rattle.std.proofs.Common.{refl}
use Rattle.drawings.specs.Texts.{markup}
use Rattle.drawings.specs.Title.{given_title}
use Rattle.drawings.proofs.drawn_examples.titles_have_what_is_given.Goals as goal

pub returns-clause-all : goal.returns-clause-all
unfolding given_title markup
returns-clause-all c = refl

pub returns-clause-part : goal.returns-clause-part
unfolding given_title markup
returns-clause-part c = refl

pub returns-clause-program : goal.returns-clause-program
unfolding given_title markup
returns-clause-program c = refl

pub returns-clause-time : goal.returns-clause-time
unfolding given_title markup
returns-clause-time c = refl

pub returns-clause-none : goal.returns-clause-none
unfolding given_title markup
returns-clause-none c = refl
