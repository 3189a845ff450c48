use Rattle.run_session.proofs.Names.{FollowsApart, OnOk, State, subst}
use Rattle.run_session.proofs.sessions.Session.miss.Goals as goal

pub returns-else-is_some-clause-followed : goal.returns-else-is_some-clause-followed
returns-else-is_some-clause-followed c =
    subst (λ (s : State). OnOk c.uncalled.result (FollowsApart s c.uncalled.new.self)) c.self.view_is c.uncalled.ensures.followed
