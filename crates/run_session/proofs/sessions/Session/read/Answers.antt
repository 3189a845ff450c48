use Rattle.run_session.proofs.ClientCalls.{reads_keeps}
use Rattle.run_session.proofs.Reporting.{keeps_by}
use Rattle.run_session.proofs.sessions.Session.read.Goals as goal

pub returns-clause-ran : goal.returns-clause-ran
returns-clause-ran c = keeps_by _ _ _ _ _ c.self.view_is
    (reads_keeps c.read_one.result c.self.inside.pauses.items c.self.inside.client c.read_one.new.self c.self.inside.growth c.self.inside.errors
    c.read_one.ensures.ok c.read_one.ensures.can c.read_one.ensures.refused c.read_one.ensures.met c.read_one.ensures.before)
