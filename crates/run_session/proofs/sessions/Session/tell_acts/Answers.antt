use Rattle.run_session.proofs.Filing.{told_acts_keep}
use Rattle.run_session.proofs.Reporting.{keeps_by}
use Rattle.run_session.proofs.sessions.Session.tell_acts.Goals as goal

pub returns-clause-ran : goal.returns-clause-ran
returns-clause-ran c = keeps_by _ _ _ _ _ c.self.view_is
    (told_acts_keep c.tell.result c.self.inside.pauses.items c.self.inside.client c.self.inside.growth c.tell.new.self c.self.inside.errors
    c.tell.ensures.ok c.tell.ensures.err)
