use Rattle.resume_plan.proofs.Names.{◌≡◌, drop, feature_touches, IsSendable, List, plan, Planned, planned_with, rules, subst, sym, touches_of}
use Rattle.std.specs.List.{All}
use Rattle.protocol_model.proofs.plan.PlanLaws.{plan_touches_left}
use Rattle.resume_plan.proofs.SendableLemmas.{plans_are_sendable}
use Rattle.resume_plan.proofs.planning.Planning.begin.Goals as goal

pub returns-clause-sendable : goal.returns-clause-sendable
returns-clause-sendable c =
    let e : planned_with c.push_selections.new.self.planned.items c.position_behind-position.result.frame
    c.position_behind-position.result.steps.now ≡ plan c.args.program.now c.args.completed c.args.start = search rules in
    subst (All IsSendable) (sym e) (plans_are_sendable c.args.program.now c.args.completed c.args.start c.statements.ensures.program)

pub returns-clause-touches : goal.returns-clause-touches
returns-clause-touches c =
    let e : planned_with c.push_selections.new.self.planned.items c.position_behind-position.result.frame
    c.position_behind-position.result.steps.now ≡ plan c.args.program.now c.args.completed c.args.start = search rules in
    subst (λ (steps : List Planned). touches_of steps ≡ feature_touches (drop c.args.completed c.args.program.now.features)) (sym e)
    (plan_touches_left c.args.program.now c.args.completed c.args.start c.statements.ensures.program)
