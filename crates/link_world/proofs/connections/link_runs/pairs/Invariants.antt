use Rattle.link_world.proofs.Names.{◌*◌, ◌+◌, ◌≡◌, ◌≤◌, client_side, false, LoopRun, server_side, Shown, TellsRun}
use Rattle.link_world.proofs.connections.link_runs.pairs.Given as goal

abbrev pub invariant-loop-pair : goal.invariant-loop-pair
invariant-loop-pair g l =
    LoopRun (g.M.Machine.answers l.initial.machine)
    (client_side l.initial.client (g.CR.Source.left l.initial.ports.client.source) (g.CW.Sink.taken l.initial.ports.client.sink))
    (server_side l.initial.server.end (g.SR.Source.left l.initial.ports.server.source) (g.SW.Sink.taken l.initial.ports.server.sink))
    l._pair l.down
    (client_side l.client (g.CR.Source.left l.ports.client.source) (g.CW.Sink.taken l.ports.client.sink))
    (server_side l.server.end (g.SR.Source.left l.ports.server.source) (g.SW.Sink.taken l.ports.server.sink))
    × (l.server.setup ≡ l.initial.server.setup)
    × (g.M.Machine.answers l.machine ≡ g.M.Machine.answers l.initial.machine)
    × (g.CR.Source.calls l.ports.client.source + g.CW.Sink.calls l.ports.client.sink
    ≤ g.CR.Source.calls l.initial.ports.client.source + g.CW.Sink.calls l.initial.ports.client.sink + l._pair * 1000000)
    × (g.SR.Source.calls l.ports.server.source + g.SW.Sink.calls l.ports.server.sink
    ≤ g.SR.Source.calls l.initial.ports.server.source + g.SW.Sink.calls l.initial.ports.server.sink + l._pair * 1000000)
    × (g.CR.Source.has_failed l.initial.ports.client.source ≡ false → g.CR.Source.has_failed l.ports.client.source ≡ false)
    × (g.CW.Sink.has_failed l.initial.ports.client.sink ≡ false → g.CW.Sink.has_failed l.ports.client.sink ≡ false)
    × (g.SR.Source.has_failed l.initial.ports.server.source ≡ false → g.SR.Source.has_failed l.ports.server.source ≡ false)
    × (g.SW.Sink.has_failed l.initial.ports.server.sink ≡ false → g.SW.Sink.has_failed l.ports.server.sink ≡ false)
    × TellsRun l.initial.client l.client (g.N.Watcher.told l.initial.watcher) (g.N.Watcher.told l.watcher)
    × Shown g.N.Watcher.shows l.initial.client l.initial.watcher l.client l.watcher
