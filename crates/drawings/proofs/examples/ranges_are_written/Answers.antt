use Rattle.std.proofs.Common.{refl}
use Rattle.drawings.specs.Sections.{range_line}
use Rattle.drawings.proofs.examples.ranges_are_written.Goals as goal

pub returns-clause-worst : goal.returns-clause-worst
unfolding range_line
returns-clause-worst c = refl

pub returns-clause-open : goal.returns-clause-open
unfolding range_line
returns-clause-open c = refl

pub returns-clause-other : goal.returns-clause-other
unfolding range_line
returns-clause-other c = refl

pub returns-clause-unnamed : goal.returns-clause-unnamed
unfolding range_line
returns-clause-unnamed c = refl
