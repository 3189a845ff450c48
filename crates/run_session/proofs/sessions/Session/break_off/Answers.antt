use Rattle.run_session.proofs.Names.{Leave, refl}
use Rattle.run_session.proofs.ClientCalls.{call_keeps}
use Rattle.run_session.proofs.Reporting.{keeps_by}
use Rattle.run_session.proofs.sessions.Session.break_off.Goals as goal

pub returns-clause-ran : goal.returns-clause-ran
returns-clause-ran c = keeps_by _ _ _ _ _ c.self.view_is
    (call_keeps c.self.inside.pauses.items Leave c.self.inside.client c.leave.new.self c.self.inside.growth c.self.inside.errors c.self.inside.errors tt (λ b. tt) refl c.leave.ensures refl)
