use Rattle.run_session.proofs.Names.{◌∙◌, sym}
use Rattle.run_session.proofs.Paces.{ends_on}
use Rattle.run_session.proofs.sessions.Session.end.Goals as goal

pub returns-clause-followed : goal.returns-clause-followed
returns-clause-followed c = ends_on c.end_run.result c.args.self.now c.end_run.new.self
    (sym c.has_to_note.ensures ∙ c.if-has_to_note.false) c.end_run.ensures.followed
