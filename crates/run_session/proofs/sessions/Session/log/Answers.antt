use Rattle.run_session.proofs.Steps.{record_within}
use Rattle.run_session.proofs.sessions.Session.log.Goals as goal

pub returns-then-is_empty-clause-nears : goal.returns-then-is_empty-clause-nears
returns-then-is_empty-clause-nears c = record_within c.record.result c.args.self.now c.record.new.self c.record.ensures.nears
