use Rattle.fixed_um.proofs.ComputedLemmas.{value_of-reads, is_zero_text-is}
use Rattle.fixed_um.proofs.numerals.computed_reading.Goals as goal

pub returns-clause-value : goal.returns-clause-value
returns-clause-value c = value_of-reads

pub returns-clause-zero : goal.returns-clause-zero
returns-clause-zero c = is_zero_text-is
