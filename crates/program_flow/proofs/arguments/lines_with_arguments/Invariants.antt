use Rattle.std.proofs.Common.{◌≡◌, length, map}
use Rattle.program_flow.specs.Macros.{all_with_arguments}
use Rattle.program_flow.specs.Named.{seen_pair}
use Rattle.program_flow.specs.SaidLines.{prepended}
use Rattle.program_flow.proofs.arguments.lines_with_arguments.Given as goal

abbrev pub invariant-loop-left : goal.invariant-loop-left
invariant-loop-left l = prepended l.lines.items (all_with_arguments (map seen_pair l.pairs) l.left) ≡ all_with_arguments (map seen_pair l.pairs) l.body

abbrev pub decreases-loop-left : goal.decreases-loop-left
decreases-loop-left l = length l.left
