use Rattle.run_session.proofs.Names.{ap, arith, le-leb, length, List, refl, Sent, ℕ}
use Rattle.run_session.proofs.ClientCalls.{call_keeps}
use Rattle.run_session.proofs.Reporting.{keeps_by}
use Rattle.run_session.proofs.sessions.Session.clear.Goals as goal

pub returns-clause-ran : goal.returns-clause-ran
returns-clause-ran c =
    let is = ap (λ (l : List ℕ). length l) c.out-count.ensures in
    keeps_by _ _ _ _ _ c.self.view_is (call_keeps c.self.inside.pauses.items (Sent (length c.out-count.result.now)) c.self.inside.client c.sent.new.self c.self.inside.growth c.self.inside.errors c.self.inside.errors tt (λ b. tt)
    (le-leb (length c.out-count.result.now) (length c.self.inside.client.out) (omega (arith, is))) c.sent.ensures refl)
