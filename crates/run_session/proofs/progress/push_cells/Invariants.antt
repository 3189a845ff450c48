use Rattle.std.proofs.Common.{◌≡◌, ◌++◌, length, map, string_bytes}
use Rattle.run_session.specs.Progress.{cell}
use Rattle.run_session.proofs.progress.push_cells.Given as goal

abbrev pub invariant-loop-left : goal.invariant-loop-left
invariant-loop-left l = string_bytes l.text ++ map (cell l.full) l.left ≡ string_bytes l.fn.text ++ map (cell l.full) l.fn.cells

abbrev pub decreases-loop-left : goal.decreases-loop-left
decreases-loop-left l = length l.left
