use Rattle.link_world.proofs.Names.{◌∙◌, ap, TraceValue, WorldValue}
use Rattle.link_world.proofs.Tracing.{traces_one}
use Rattle.link_world.proofs.worlds.traces.Trace.step.Goals as goal

pub returns-clause-traced : goal.returns-clause-traced
returns-clause-traced c = traces_one c.args.event c.args.world.now.world c.step-2.new.self.world c.standing-before.result
    c.args.self.now c.note.new.self c.take.new.self c.in_ok-step.ensures.answer
    (ap (λ (k : WorldValue). k.world) c.in_ok-step.ensures.leads.0)
    (λ last. c.standing-before.ensures (ap (λ (t : TraceValue). t.taken) c.self.view_is ∙ last)) c.note.ensures c.take.ensures
