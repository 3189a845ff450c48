use Rattle.run_session.proofs.Names.{IsRunOf, State, subst, sym}
use Rattle.run_session.proofs.sessions.Session.begun_features.Goals as goal

pub returns-in-Done-clause-ran : goal.returns-in-Done-clause-ran
returns-in-Done-clause-ran c = λ w run. c.begin_contacts.ensures.ran w (subst (λ (s : State). IsRunOf w s) (sym c.note_named.ensures) run)
