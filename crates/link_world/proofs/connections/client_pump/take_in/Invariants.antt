use Rattle.link_world.proofs.Names.{◌+◌, ◌-◌, ◌<◌, ◌≡◌, ◌≤◌, Came, false, length}
use Rattle.link_world.proofs.connections.client_pump.take_in.Given as goal

abbrev pub invariant-loop-read : goal.invariant-loop-read
invariant-loop-read g l =
    Came l.initial.client l.client (g.R.Source.left l.initial.source) (g.R.Source.left l.source) l.initial.budget.left l.budget.left l.read
    × (length l.piece ≡ 4096) × (l.read < l.at_least + 4096) × (l.at_least ≡ 0 → l.source ≡ l.initial.source)
    × (g.R.Source.calls l.source + l.budget.left ≤ g.R.Source.calls l.initial.source + l.initial.budget.left)
    × (g.R.Source.has_failed l.initial.source ≡ false → g.R.Source.has_failed l.source ≡ false)

abbrev pub decreases-loop-read : goal.decreases-loop-read
decreases-loop-read g l = l.at_least - l.read
