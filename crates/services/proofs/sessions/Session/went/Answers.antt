use Rattle.std.proofs.Common.{ap, false, refl, subst, sym}
use Rattle.effects.specs.Effects.{Reply, the_reply}
use Rattle.services.specs.Sessions.{Brings, State}
use Rattle.services.specs.declared.stages.Stage.{Stage}
use Rattle.services.proofs.Served.{BringsNone, left_serves, may_go, sent_serves, unsent}
use Rattle.services.proofs.sessions.Session.went.Goals as goal

pub returns-in-Done-clause-served : goal.returns-in-Done-clause-served
returns-in-Done-clause-served c = subst (λ (r : Reply). Brings false c.args.self.now r c.sent.new.self) (sym (ap the_reply c.in-Done.is))
    (sent_serves false c.args.self.now c.sent.new.self c.requires c.sent.ensures.talk)

pub returns-in-Nothing-clause-served : goal.returns-in-Nothing-clause-served
returns-in-Nothing-clause-served c =
    left_serves false c.args.self.now c.fail.new.self Stage.Sending (the_reply c.args.answer) c.requires
    (subst (λ (r : Reply). BringsNone Stage.Sending r) (sym (ap the_reply c.in-Nothing.is)) (λ out f. refl)) (λ next. refl)
    (ap (λ (s : State). s.talk) c.fail.ensures.new)

pub returns-in_default-clause-served : goal.returns-in_default-clause-served
returns-in_default-clause-served c =
    left_serves false c.args.self.now c.fail-in_default.new.self Stage.Sending (the_reply c.args.answer) c.requires
    (unsent c.args.answer c.in_default.not-Done).0 (λ next. refl) (ap (λ (s : State). s.talk) c.fail-in_default.ensures.new)

pub returns-in_default-clause-stays : goal.returns-in_default-clause-stays
returns-in_default-clause-stays c = may_go c.args.self.now c.fail-in_default.new.self Stage.Sending (the_reply c.args.answer) c.requires
    (unsent c.args.answer c.in_default.not-Done).1
