use Rattle.std.proofs.Common.{◌≡◌, OnOk, ap, false, refl, subst, sym}
use Rattle.effects.specs.Effects.{Reply, the_reply}
use Rattle.services.specs.Sessions.{Breaks, Brings}
use Rattle.services.specs.Serving.{Talk}
use Rattle.services.specs.declared.stages.Stage.{Stage}
use Rattle.services.proofs.Breaking.{none_breaks, none_taken}
use Rattle.services.proofs.Served.{on_ok, same_serves, untaken}
use Rattle.services.proofs.sessions.Session.accepted.Goals as goal

pub returns-in-Done-clause-served : goal.returns-in-Done-clause-served
returns-in-Done-clause-served c =
    subst (λ (r : Reply). Brings false c.args.self.now r c.taken.new.self) (sym (ap the_reply c.in-Done.is)) c.taken.ensures.served

pub returns-in_default-clause-served : goal.returns-in_default-clause-served
returns-in_default-clause-served c = same_serves false c.args.self.now c.untaken.new.self Stage.Accepting (the_reply c.args.answer) c.requires
    (untaken c.args.answer c.in_default.not-Done) (λ next. refl) c.untaken.ensures.talk

pub returns-in-Done-clause-breaks : goal.returns-in-Done-clause-breaks
returns-in-Done-clause-breaks c =
    subst (λ (r : Reply). OnOk c.taken.result (Breaks c.args.self.now r c.taken.new.self)) (sym (ap the_reply c.in-Done.is)) c.taken.ensures.breaks

pub returns-in_default-clause-breaks : goal.returns-in_default-clause-breaks
returns-in_default-clause-breaks c = on_ok c.untaken.result (c.untaken.new.self.core.broken ≡ c.args.self.now.core.broken)
    (Breaks c.args.self.now (the_reply c.args.answer) c.untaken.new.self)
    (λ b. none_breaks c.args.self.now c.untaken.new.self (the_reply c.args.answer) (ap (λ (t : Talk). t.end) c.untaken.ensures.talk) b
    (λ at is. none_taken (the_reply c.args.answer) (untaken c.args.answer c.in_default.not-Done) is)) c.untaken.ensures.broken
