use Rattle.std.proofs.Common.{◌≡◌, length, map}
use Rattle.program_flow.specs.Calls.{is_open}
use Rattle.program_flow.specs.Named.{seen_call}
use Rattle.program_flow.proofs.calls.is_open.Given as goal

abbrev pub invariant-loop-left : goal.invariant-loop-left
invariant-loop-left l = is_open l.name (map seen_call l.left) ≡ is_open l.name (map seen_call l.calls)

abbrev pub decreases-loop-left : goal.decreases-loop-left
decreases-loop-left l = length l.left
