use Rattle.link_world.proofs.Names.{◌*◌, ◌+◌, ◌-◌, ◌≡◌, ◌≤◌, false}
use Rattle.link_world.proofs.ClientRuns.{ClientSoFar}
use Rattle.link_world.proofs.connections.links.run_link.Given as goal

abbrev pub invariant-loop-piece : goal.invariant-loop-piece
invariant-loop-piece g l =
    ClientSoFar l.turns l.initial.client l.client (g.R.Source.left l.initial.source) (g.R.Source.left l.source)
    (g.W.Sink.taken l.initial.sink) (g.W.Sink.taken l.sink)
    × (l.turns ≤ 1000000)
    × (g.R.Source.calls l.source + g.W.Sink.calls l.sink
    ≤ g.R.Source.calls l.initial.source + g.W.Sink.calls l.initial.sink + l.turns * 1000000)
    × (g.R.Source.has_failed l.initial.source ≡ false → g.R.Source.has_failed l.source ≡ false)
    × (g.W.Sink.has_failed l.initial.sink ≡ false → g.W.Sink.has_failed l.sink ≡ false)

abbrev pub decreases-loop-piece : goal.decreases-loop-piece
decreases-loop-piece g l = 1000000 - l.turns
