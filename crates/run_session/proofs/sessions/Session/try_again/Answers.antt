use Rattle.run_session.proofs.Names.{FollowsApart, OnOk, State, subst}
use Rattle.run_session.proofs.sessions.Session.try_again.Goals as goal

pub returns-else-self-gt-LOOK_MS-clause-followed : goal.returns-else-self-gt-LOOK_MS-clause-followed
returns-else-self-gt-LOOK_MS-clause-followed c =
    subst (λ (s : State). OnOk c.uncalled.result (FollowsApart s c.uncalled.new.self)) c.self.view_is c.uncalled.ensures.followed
