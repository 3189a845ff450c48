use Rattle.std.proofs.Common.{refl}
use Rattle.drawings.specs.Pages.{within_line}
use Rattle.drawings.specs.Texts.{markup}
use Rattle.drawings.proofs.examples.good_news_of_limits_is_rare.Goals as goal

pub returns-clause-inside : goal.returns-clause-inside
unfolding within_line markup
returns-clause-inside c = refl

pub returns-clause-open : goal.returns-clause-open
unfolding within_line markup
returns-clause-open c = refl

pub returns-clause-none : goal.returns-clause-none
unfolding within_line markup
returns-clause-none c = refl

pub returns-clause-outside : goal.returns-clause-outside
unfolding within_line markup
returns-clause-outside c = refl

pub returns-clause-counts : goal.returns-clause-counts
unfolding within_line markup
returns-clause-counts c = refl

pub returns-clause-unnamed : goal.returns-clause-unnamed
unfolding within_line markup
returns-clause-unnamed c = refl

pub returns-clause-others : goal.returns-clause-others
unfolding within_line markup
returns-clause-others c = refl

pub returns-clause-missing : goal.returns-clause-missing
unfolding within_line markup
returns-clause-missing c = refl
