use Rattle.std.proofs.Common.{◌≡◌, ◌≤◌, ◌+◌, ◌*◌, false}
use Rattle.link_world.proofs.ServerRuns.{ServerSoFar}
use Rattle.link_world.proofs.connections.links.serve_link.Given as goal

abbrev pub invariant-loop-turn : goal.invariant-loop-turn
invariant-loop-turn g l =
    ServerSoFar (g.M.Machine.answers l.initial.machine) l._turn l.initial.server.end l.server.end (g.R.Source.left l.initial.source)
    (g.R.Source.left l.source) (g.W.Sink.taken l.initial.sink) (g.W.Sink.taken l.sink)
    × (l.server.setup ≡ l.initial.server.setup)
    × (g.M.Machine.answers l.machine ≡ g.M.Machine.answers l.initial.machine)
    × (g.R.Source.calls l.source + g.W.Sink.calls l.sink
    ≤ g.R.Source.calls l.initial.source + g.W.Sink.calls l.initial.sink + l._turn * 1000000)
    × (g.R.Source.has_failed l.initial.source ≡ false → g.R.Source.has_failed l.source ≡ false)
    × (g.W.Sink.has_failed l.initial.sink ≡ false → g.W.Sink.has_failed l.sink ≡ false)
