use Rattle.run_session.proofs.Reporting.{notes_keep}
use Rattle.run_session.proofs.sessions.Session.close_notes.Goals as goal

pub returns-in_err-add_seal-clause-ran : goal.returns-in_err-add_seal-clause-ran
returns-in_err-add_seal-clause-ran c = notes_keep _ _ _ c.self.view_is c.add_seal.ensures.adds

pub returns-clause-ran : goal.returns-clause-ran
returns-clause-ran c = notes_keep _ _ _ c.self.view_is c.add_seal.ensures.adds
