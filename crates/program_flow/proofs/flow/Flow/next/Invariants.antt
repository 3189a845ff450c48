use Rattle.std.proofs.Common.{◌≡◌, ◌≤◌, List}
use Rattle.dmis_text.specs.declared.elements.Statement.{Statement}
use Rattle.program_flow.specs.LookBack.{Holds}
use Rattle.program_flow.specs.Left.{left_of, size}
use Rattle.program_flow.proofs.flow.Flow.next.Given as goal

-- the same statements still come out
abbrev pub invariant-loop-self : goal.invariant-loop-self
invariant-loop-self l = (l.self.outside ≡ l.fn.self.outside)
    × (size l.self ≤ size l.fn.self) × ((above : List Statement) → Holds above l.variables → left_of l.self above ≡ left_of l.fn.self above)

abbrev pub decreases-loop-self : goal.decreases-loop-self
decreases-loop-self l = l.self.turns
