use Rattle.std.proofs.Common.{◌≡◌, ◌+◌, ◌++◌, length}
use Rattle.part_summary.specs.Pages.{sections}
use Rattle.part_summary.proofs.pages.put_sections.Given as goal

abbrev pub invariant-loop-left : goal.invariant-loop-left
invariant-loop-left l = (l.out.items ++ sections l.number l.fn.limits l.fn.parts l.left l.later
    ≡ l.initial.out.items ++ sections 0 l.fn.limits l.fn.parts l.fn.wanted l.fn.tallies) × (l.number + length l.left ≡ length l.fn.wanted)

abbrev pub decreases-loop-left : goal.decreases-loop-left
decreases-loop-left l = length l.left
