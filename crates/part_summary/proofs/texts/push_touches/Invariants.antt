use Rattle.std.proofs.Common.{◌≡◌, ◌++◌, length}
use Rattle.std.specs.Prelude.{string_bytes}
use Rattle.part_summary.specs.Batches.{places_in}
use Rattle.part_summary.specs.Texts.{touch_lines}
use Rattle.part_summary.proofs.texts.push_touches.Given as goal

abbrev pub invariant-loop-left : goal.invariant-loop-left
invariant-loop-left l = string_bytes l.text ++ touch_lines (places_in l.left) l.later
    ≡ string_bytes l.fn.text ++ touch_lines (places_in l.fn.rows) l.fn.tallies

abbrev pub decreases-loop-left : goal.decreases-loop-left
decreases-loop-left l = length l.left
