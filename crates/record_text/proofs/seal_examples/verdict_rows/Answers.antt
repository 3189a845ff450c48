use Rattle.std.proofs.Common.{refl}
use Rattle.contact_ledger.specs.Lines as text
use Rattle.record_text.proofs.seal_examples.verdict_rows.Goals as goal

pub returns-clause-never : goal.returns-clause-never
unfolding text.whole_lines
returns-clause-never c = refl

pub returns-clause-empty : goal.returns-clause-empty
unfolding text.whole_lines
returns-clause-empty c = refl

pub returns-clause-unkeyed : goal.returns-clause-unkeyed
unfolding text.whole_lines
returns-clause-unkeyed c = refl
