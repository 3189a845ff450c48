use Rattle.std.proofs.Common.{rules}
use Rattle.link_world.proofs.SameKind.{answer_refused}
use Rattle.link_world.proofs.EventLists.{leads_one, leads_refused, same_stage}
use Rattle.link_world.proofs.worlds.world.World.attempt.Goals as goal

pub returns-in-Ok-clause-leads : goal.returns-in-Ok-clause-leads
returns-in-Ok-clause-leads c = leads_one c.args.event c.args.self.now c.step.new.world c.args.trace.now
    c.step.new.self c.in-Ok.ensures.answer c.in-Ok.ensures.leads.0 c.in-Ok.ensures.traced

pub returns-in-Err-NotNow-clause-leads : goal.returns-in-Err-NotNow-clause-leads
returns-in-Err-NotNow-clause-leads c = leads_refused c.args.event c.args.self.now c.step.new.world c.args.trace.now
    c.step.new.self (answer_refused c.args.event c.args.self.now.world
    c.step.result c.step.ensures.answer (search rules)) c.in-Err-NotNow.ensures.leads.1
    c.in-Err-NotNow.ensures.untraced

pub returns-in-Err-Memory-clause-stays : goal.returns-in-Err-Memory-clause-stays
returns-in-Err-Memory-clause-stays c = same_stage c.args.self.now c.step.new.world c.args.trace.now
    c.step.new.self c.in-Err-Memory.ensures.leads.1
    c.in-Err-Memory.ensures.untraced
