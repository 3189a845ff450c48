use Rattle.deviations.proofs.Names.{AllZip, IsRow}
use Rattle.deviations.proofs.rows.rows_of.Given as goal

abbrev pub invariant-loop-place : goal.invariant-loop-place
invariant-loop-place l = AllZip IsRow l.yielded l.rows.items
