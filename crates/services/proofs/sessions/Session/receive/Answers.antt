use Rattle.std.proofs.Common.{◌∙◌, ap, false, refl, sym}
use Rattle.effects.specs.Effects.{the_reply}
use Rattle.services.specs.Sessions.{State}
use Rattle.services.specs.declared.stages.Stage.{Stage}
use Rattle.services.proofs.Served.{gone_serves, left_serves}
use Rattle.services.proofs.sessions.Session.receive.Goals as goal

pub returns-in-Checking-Found-clause-served : goal.returns-in-Checking-Found-clause-served
returns-in-Checking-Found-clause-served c =
    left_serves false c.args.self.now c.leave.new.self Stage.Checking (the_reply c.args.answer)
    (sym (ap (λ (s : State). s.stage) c.self.view_is) ∙ c.in-Checking-Found.is-0) (λ out f. refl) (λ next. refl)
    (ap (λ (s : State). s.talk) c.leave.ensures)

pub returns-in-Some-clause-served : goal.returns-in-Some-clause-served
returns-in-Some-clause-served c =
    gone_serves false _ c.args.self.now c.fail.new.self Stage.Timing (the_reply c.args.answer) c.self.view_is c.in-Timing-At.is-0
    (λ out f. refl) (λ next. refl) (ap (λ (s : State). s.talk) c.fail.ensures.new)
