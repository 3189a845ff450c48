use Rattle.std.proofs.Common.{◌≡◌, ◌≤◌, ◌+◌, length}
use Rattle.program_flow.specs.Variables.{entry_value}
use Rattle.program_flow.specs.Held.{value_at}
use Rattle.program_flow.specs.Selections.{chosen}
use Rattle.program_flow.proofs.selections.chosen.Given as goal

abbrev pub invariant-loop-left : goal.invariant-loop-left
invariant-loop-left l = (chosen (entry_value l.variables) (value_at (entry_value l.variables) l.text l.number) l.open l.at l.left ≡ chosen (entry_value l.variables) (value_at (entry_value l.variables) l.text l.number) 0 l.place l.statements)
    × (l.open + length l.left ≤ length l.statements) × (l.at + length l.left ≡ l.place + length l.statements)

abbrev pub decreases-loop-left : goal.decreases-loop-left
decreases-loop-left l = length l.left
