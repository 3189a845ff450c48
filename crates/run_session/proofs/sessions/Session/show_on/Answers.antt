use Rattle.run_session.proofs.Names.{◌∙◌}
use Rattle.run_session.proofs.Steps.{shown_nears}
use Rattle.run_session.proofs.sessions.Session.show_on.Goals as goal

pub returns-in_ok-lose_log-in_default-clause-nears : goal.returns-in_ok-lose_log-in_default-clause-nears
returns-in_ok-lose_log-in_default-clause-nears c = shown_nears c.record-in_default.result c.args.self.now c.lose_log.new.self c.record-in_default.new.self
    c.requires (c.in_ok-lose_log-in_default.ensures ∙ c.self.view_is) c.record-in_default.ensures.nears
