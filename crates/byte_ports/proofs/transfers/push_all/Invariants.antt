use Rattle.std.proofs.Common.{◌≡◌, ◌<◌, ◌≤◌, ◌-◌, true, false, length, take}
use Rattle.std.specs.Io.KnownBytes.{Appends}
use Rattle.byte_ports.proofs.transfers.push_all.Given as goal

abbrev pub invariant-loop-done : goal.invariant-loop-done
invariant-loop-done g l =
    (l.done ≤ length l.bytes) × Appends (g.W.Sink.taken l.initial.sink) (g.W.Sink.taken l.sink) (take l.done l.bytes)
    × (0 < l.done → g.W.Sink.has_failed l.sink ≡ false)
    × (g.W.Sink.has_failed l.initial.sink ≡ true → g.W.Sink.has_failed l.sink ≡ true)
    × (l.done ≡ 0 → l.sink ≡ l.initial.sink)

abbrev pub decreases-loop-done : goal.decreases-loop-done
decreases-loop-done g l = length l.bytes - l.done
