use Rattle.std.proofs.Common.{◌≡◌, ◌++◌, length, map}
use Rattle.program_flow.specs.Macros.{params_text, replaced}
use Rattle.program_flow.specs.Named.{params_after, seen_pair}
use Rattle.program_flow.proofs.arguments.push_params.Given as goal

abbrev pub invariant-loop-left : goal.invariant-loop-left
invariant-loop-left l = l.made.items ++ params_after l.mark (map (replaced (map seen_pair l.pairs)) l.left)
    ≡ l.fn.made.items ++ params_text (map (replaced (map seen_pair l.pairs)) l.params)

abbrev pub decreases-loop-left : goal.decreases-loop-left
decreases-loop-left l = length l.left
