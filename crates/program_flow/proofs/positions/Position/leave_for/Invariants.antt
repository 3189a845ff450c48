use Rattle.std.proofs.Common.{◌≡◌, length}
use Rattle.program_flow.specs.Blocks.{around}
use Rattle.program_flow.proofs.positions.Position.leave_for.Given as goal

abbrev pub invariant-loop-inner : goal.invariant-loop-inner
invariant-loop-inner l = (l.self.place ≡ l.fn.self.place) × (around l.place l.self.blocks.items ≡ around l.place l.fn.self.blocks.items)

abbrev pub decreases-loop-inner : goal.decreases-loop-inner
decreases-loop-inner l = length l.self.blocks.items
