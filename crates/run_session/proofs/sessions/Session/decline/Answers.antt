use Rattle.run_session.proofs.Names.{Keeps, OnErr, OnOk, State, subst, true}
use Rattle.run_session.specs.Records.{IsShort, stopped}
use Rattle.run_session.proofs.sessions.Session.decline.Goals as goal

pub returns-clause-ran : goal.returns-clause-ran
returns-clause-ran c = subst (λ (x : State). OnOk c.stop.result (Keeps (stopped true x) c.stop.new.self)) c.self.view_is c.stop.ensures.ran

pub returns-clause-spent : goal.returns-clause-spent
returns-clause-spent c = subst (λ (x : State). OnErr c.stop.result (IsShort true x c.stop.new.self)) c.self.view_is c.stop.ensures.spent
