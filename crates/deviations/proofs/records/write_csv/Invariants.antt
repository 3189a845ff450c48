use Rattle.std.proofs.Common.{◌≡◌, ◌++◌, length}
use Rattle.deviations.specs.Records.{records_text, csv_text}
use Rattle.deviations.proofs.records.write_csv.Given as goal

abbrev pub invariant-loop-left : goal.invariant-loop-left
invariant-loop-left l = l.text.items ++ records_text l.style l.limits l.left ≡ csv_text l.style l.limits l.fn.rows

abbrev pub decreases-loop-left : goal.decreases-loop-left
decreases-loop-left l = length l.left
