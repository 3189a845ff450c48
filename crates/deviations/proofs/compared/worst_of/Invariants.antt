use Rattle.std.proofs.Common.{◌≡◌, drop}
use Rattle.std.specs.Prelude.{None}
use Rattle.deviations.specs.Compared.{worst_after}
use Rattle.deviations.proofs.compared.worst_of.Given as goal

abbrev pub invariant-loop-row : goal.invariant-loop-row
invariant-loop-row l = worst_after l.range l.worst (drop l.row-index l.rows) ≡ worst_after l.range None l.rows
