use Rattle.std.proofs.Common.{refl}
use Rattle.contact_ledger.specs.Lines as text
use Rattle.record_text.specs.Seals.{unsealed}
use Rattle.record_text.proofs.seal_examples.unsealed_rows.Goals as goal

pub returns-clause-below : goal.returns-clause-below
unfolding unsealed text.whole_lines
returns-clause-below c = refl

pub returns-clause-whole : goal.returns-clause-whole
unfolding unsealed text.whole_lines
returns-clause-whole c = refl

pub returns-clause-never : goal.returns-clause-never
unfolding unsealed text.whole_lines
returns-clause-never c = refl
