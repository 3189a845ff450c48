use Rattle.std.proofs.Common.{◌≡◌, length}
use Rattle.program_flow.specs.Variables.{entry_value}
use Rattle.program_flow.specs.Held.{value_at}
use Rattle.program_flow.specs.Selections.{one_equals}
use Rattle.program_flow.proofs.selections.one_equals.Given as goal

abbrev pub invariant-loop-left : goal.invariant-loop-left
invariant-loop-left l = one_equals (entry_value l.variables) (value_at (entry_value l.variables) l.text l.number) l.left ≡ one_equals (entry_value l.variables) (value_at (entry_value l.variables) l.text l.number) l.texts

abbrev pub decreases-loop-left : goal.decreases-loop-left
decreases-loop-left l = length l.left
