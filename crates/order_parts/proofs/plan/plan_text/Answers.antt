use Rattle.order_parts.proofs.Names.{◌≡◌, All, IsSendable, planned_with, rules, subst, sym}
use Rattle.order_parts.proofs.PlanLemmas.{IsMaking, front_is_sendable, are_taken, all_are_taken}
use Rattle.order_parts.proofs.plan.plan_text.Goals as goal

pub take-requires : goal.take-requires
take-requires c =
    let e : planned_with c.add_step.new.self.commands.planned.items c.add_step.new.self.frame c.add_step.new.self.steps.now
    ≡ planned_with c.loop-planning.planning.commands.planned.items c.loop-planning.planning.frame c.loop-planning.planning.steps.now
    = search rules in
    front_is_sendable _ _ (subst (All IsSendable) (sym e) c.loop-planning.invariant.sendable)

pub loop-planning-preserved : goal.loop-planning-preserved
loop-planning-preserved c =
    let e : planned_with c.add_step.new.self.commands.planned.items c.add_step.new.self.frame c.add_step.new.self.steps.now
    ≡ planned_with c.loop-planning.planning.commands.planned.items c.loop-planning.planning.frame c.loop-planning.planning.steps.now
    = search rules in
    rw c.take.ensures.taken (are_taken c.args.program.now _ _ c.add_step.new.self.commands.planned.items _ _ _
    (subst (IsMaking c.args.program.now c.loop-planning.lines.text.items c.loop-planning.lines.number) (sym e) c.loop-planning.invariant)
    (search rules) (search rules))

pub returns-clause-text : goal.returns-clause-text
returns-clause-text c =
    all_are_taken c.args.program.now c.loop-planning.lines.text.items c.loop-planning.lines.number _ _ c.loop-planning.invariant
    (search rules)
