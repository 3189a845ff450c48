use Rattle.std.proofs.Common.{◌≡◌, ◌+◌, ◌≤◌, ◌++◌, length}
use Rattle.std.specs.Prelude.{vec_len, vec_capacity}
use Rattle.command_queue.specs.Limits.{places}
use Rattle.command_queue.proofs.queue.Queue.drain_all.Given as goal

-- what was taken and what waits still is what waited, and there is room for the rest
abbrev pub invariant-loop-command : goal.invariant-loop-command
invariant-loop-command l =
    (l.commands.items ++ l.self-inside.ring.items ≡ l.fn.self)
    × (vec_len l.commands + length l.self-inside.ring.items ≤ vec_capacity l.commands)
    × (l.self-inside.ring.capacity ≡ places)

abbrev pub decreases-loop-command : goal.decreases-loop-command
decreases-loop-command l = length l.self-inside.ring.items
