use Rattle.std.proofs.Common.{◌≡◌, None, length}
use Rattle.part_summary.specs.Spans.{span_after}
use Rattle.part_summary.proofs.spans.span_of.Given as goal

abbrev pub invariant-loop-left : goal.invariant-loop-left
invariant-loop-left l = span_after l.span l.left ≡ span_after None l.fn.rows

abbrev pub decreases-loop-left : goal.decreases-loop-left
decreases-loop-left l = length l.left
