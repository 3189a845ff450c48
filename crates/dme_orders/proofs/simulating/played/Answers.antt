use Rattle.dme_orders.proofs.Names.{ap, AreTraced, false, Plays, ShowsLines, simulated, subst, sym}
use Rattle.link_world.specs.Links.{WorldValue}
use Rattle.dme_orders.proofs.simulating.played.Goals as goal

pub returns-in-Ok-clause-played : goal.returns-in-Ok-clause-played
returns-in-Ok-clause-played g c = subst (λ (w : WorldValue). Plays
    (simulated w.setup.shifts) c.args.input.schedule false w.world c.play.new.world.world)
    c.in_ok-world.ensures (c.in-Ok.ensures.ok)

pub returns-in-Ok-clause-lines : goal.returns-in-Ok-clause-lines
returns-in-Ok-clause-lines g c = subst (λ (w : WorldValue). ShowsLines g.L.Sink.taken g.L.Sink.has_failed c.args.lines.now c.play.new.lines
    (AreTraced (simulated w.setup.shifts) c.args.input.schedule w.world c.play.new.world.world))
    c.in_ok-world.ensures (c.in-Ok.ensures.lines (ap (λ (w : WorldValue). w.world.server.server.last) (sym c.in_ok-world.ensures)))
