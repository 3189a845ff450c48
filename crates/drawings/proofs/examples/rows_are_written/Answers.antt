use Rattle.std.proofs.Common.{refl}
use Rattle.drawings.specs.Sections.{row_text}
use Rattle.drawings.proofs.examples.rows_are_written.Goals as goal

pub returns-clause-out : goal.returns-clause-out
unfolding row_text
returns-clause-out c = refl

pub returns-clause-unlimited : goal.returns-clause-unlimited
unfolding row_text
returns-clause-unlimited c = refl

pub returns-clause-open : goal.returns-clause-open
unfolding row_text
returns-clause-open c = refl
