use Rattle.std.proofs.Common.{◌≡◌, ◌++◌, length}
use Rattle.part_summary.specs.Spans.{spans_of}
use Rattle.part_summary.proofs.spans.spans_of.Given as goal

abbrev pub invariant-loop-left : goal.invariant-loop-left
invariant-loop-left l = l.spans.items ++ spans_of l.left l.later ≡ spans_of l.fn.wanted l.fn.rows

abbrev pub decreases-loop-left : goal.decreases-loop-left
decreases-loop-left l = length l.left
