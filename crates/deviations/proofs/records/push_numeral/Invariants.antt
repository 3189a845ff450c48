use Rattle.std.proofs.Common.{◌≡◌, ◌++◌, length, map}
use Rattle.deviations.specs.Styles.{signed}
use Rattle.deviations.proofs.records.push_numeral.Given as goal

abbrev pub invariant-loop-left : goal.invariant-loop-left
invariant-loop-left l = l.shown.items ++ map (signed l.sign) l.left ≡ map (signed l.sign) l.fn.numeral

abbrev pub decreases-loop-left : goal.decreases-loop-left
decreases-loop-left l = length l.left
