use Rattle.link_world.proofs.Names.{◌+◌, ◌≡◌, HasRun, Headline, IsSameKind, take}
use Rattle.link_world.proofs.worlds.world.World.run.Given as goal

abbrev pub invariant-loop-event : goal.invariant-loop-event
invariant-loop-event l =
    (HasRun l.fn.self.world (take l.event-index l.events) l.self.world l.count.done
    l.count.not_now l.count.memory)
    × IsSameKind l.fn.self l.self
    × (l.count.done + l.count.not_now + l.count.memory ≡ l.event-index)
    × Headline l.self.world
