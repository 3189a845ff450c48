use Rattle.effects.specs.Effects.{the_reply}
use Rattle.run_session.proofs.Names.{ap, FollowsApart, OnOk, State, subst}
use Rattle.effects.specs.declared.vocabulary.Answer.{Answer}
use Rattle.run_session.specs.Records.{is_done}
use Rattle.run_session.proofs.Steps.{stood_nears}
use Rattle.run_session.proofs.sessions.Session.has_stood.Goals as goal

pub returns-in-Done-clause-nears : goal.returns-in-Done-clause-nears
returns-in-Done-clause-nears c = stood_nears c.close.result c.args.self.now c.note_stood.new.self c.close.new.self (the_reply c.args.answer)
    c.note_stood.ensures c.requires (ap (λ (a : Answer). is_done (the_reply a)) c.in-Done.is) c.close.ensures.nears c.close.ensures.stays

pub returns-in-Done-clause-followed : goal.returns-in-Done-clause-followed
returns-in-Done-clause-followed c = subst (λ (s : State). OnOk c.close.result (FollowsApart s c.close.new.self)) c.note_stood.ensures
    c.close.ensures.followed
