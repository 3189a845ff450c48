use Rattle.link_world.proofs.Names.{◌∙◌, ap, rules, TraceValue}
use Rattle.link_world.proofs.Tracing.{ends_all}
use Rattle.link_world.proofs.worlds.traces.Trace.end.Goals as goal

pub returns : goal.returns
returns c = ends_all c.args.world.now.world c.standing-end.result c.connections_made-made.result c.args.self.now
    c.keep_lost_down.new.self c.keep_lost_up.new.self c.keep_passed_over.new.self
    (λ last. c.standing-end.ensures (ap (λ (t : TraceValue). t.taken) c.self.view_is ∙ last)) c.connections_made-made.ensures.links
    c.keep_lost_down.ensures c.keep_lost_up.ensures (search rules)
