use Rattle.link_world.proofs.Names.{◌+◌, ◌-◌, ◌≡◌, ◌≤◌, Appends, false, length, take}
use Rattle.link_world.proofs.connections.pumps.push_counted.Given as goal

abbrev pub invariant-loop-done : goal.invariant-loop-done
invariant-loop-done g l =
    (l.done ≤ length l.bytes) × Appends (g.W.Sink.taken l.initial.sink) (g.W.Sink.taken l.sink) (take l.done l.bytes)
    × (l.initial.budget.left ≤ l.budget.left + l.done)
    × (g.W.Sink.calls l.sink + l.budget.left ≤ g.W.Sink.calls l.initial.sink + l.initial.budget.left)
    × (g.W.Sink.has_failed l.initial.sink ≡ false → g.W.Sink.has_failed l.sink ≡ false)

abbrev pub decreases-loop-done : goal.decreases-loop-done
decreases-loop-done g l = length l.bytes - l.done
