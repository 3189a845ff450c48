use Rattle.std.proofs.Common.{◌≡◌, ◌++◌, length}
use Rattle.std.specs.Vec.Iter.{into_iter_items, into_iter_len}
use Rattle.program_flow.specs.Macros.{outside, outside_after}
use Rattle.program_flow.specs.Named.{count_ends, inside, inside_after}
use Rattle.program_flow.proofs.macros.split.Given as goal

abbrev pub invariant-loop-statement : goal.invariant-loop-statement
invariant-loop-statement l = (l.outside.items ++ outside_after l.within (into_iter_items l.left) ≡ outside l.fn.text.items)
    × (l.macros.items ++ inside_after l.within (into_iter_items l.left) ≡ inside l.fn.text.items)
    × (l.ends ≡ count_ends (into_iter_items l.left))
    × (into_iter_len l.left ≡ length (into_iter_items l.left))

abbrev pub decreases-loop-statement : goal.decreases-loop-statement
decreases-loop-statement l = into_iter_len l.left
