use Rattle.std.proofs.Common.{◌≡◌, length}
use Rattle.program_flow.specs.Macros.{macro_after, macro_named}
use Rattle.program_flow.proofs.macros.macro_named.Given as goal

abbrev pub invariant-loop-left : goal.invariant-loop-left
invariant-loop-left l = macro_after l.name l.within l.left ≡ macro_named l.name l.text

abbrev pub decreases-loop-left : goal.decreases-loop-left
decreases-loop-left l = length l.left
