use Rattle.effects.specs.Effects.{the_reply}
use Rattle.run_session.proofs.Names.{◌∙◌, ap, FollowsApart, OnOk, State, subst}
use Rattle.run_session.proofs.Steps.{replaced_nears}
use Rattle.run_session.proofs.sessions.Session.has_replaced.Goals as goal

pub returns-in_default-clause-nears : goal.returns-in_default-clause-nears
returns-in_default-clause-nears c = replaced_nears c.close.result c.args.self.now c.note_replaced.new.self c.close.new.self (the_reply c.args.answer)
    c.note_replaced.ensures (λ e. c.in_default.not-ReplacingFeatures (ap (λ (s : State). s.stage) c.self.view_is ∙ e))
    c.requires.which c.requires.late c.close.ensures.nears c.close.ensures.stays

pub returns-in_default-clause-followed : goal.returns-in_default-clause-followed
returns-in_default-clause-followed c = subst (λ (s : State). OnOk c.close.result (FollowsApart s c.close.new.self)) c.note_replaced.ensures
    c.close.ensures.followed
