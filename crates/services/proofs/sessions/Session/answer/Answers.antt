use Rattle.std.proofs.Common.{◌≡◌, ◌∙◌, ap, false, refl, rules, sym}
use Rattle.effects.specs.Effects.{the_reply}
use Rattle.services.specs.Sessions.{State}
use Rattle.services.specs.declared.stages.Stage.{Stage}
use Rattle.services.proofs.Served.{same_serves}
use Rattle.services.proofs.sessions.Session.answer.Goals as goal

pub returns-in_default-clause-served : goal.returns-in_default-clause-served
returns-in_default-clause-served c =
    let is : c.self.inside.stage ≡ Stage.Leaving = search rules in
    same_serves false c.args.self.now c.left.new.self Stage.Leaving (the_reply c.args.answer) (sym (ap (λ (s : State). s.stage) c.self.view_is) ∙ is)
    (λ out f. refl) (λ next. refl) c.left.ensures.talk
