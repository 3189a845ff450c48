use Rattle.std.proofs.Common.{ap}
use Rattle.services.specs.Sessions.{State}
use Rattle.services.proofs.Keeping.{said_due, said_ready}
use Rattle.services.proofs.sessions.Session.go_to_next.Goals as goal

pub returns-clause-goes : goal.returns-clause-goes
returns-clause-goes c = λ reply. said_ready _ _ reply c.requires (ap (λ (s : State). record s { stage = s.next }) c.self.view_is)

pub returns-clause-due : goal.returns-clause-due
returns-clause-due c = said_due _ _ c.requires (ap (λ (s : State). record s { stage = s.next }) c.self.view_is)
