use Rattle.run_session.proofs.Names.{◌≡◌, Keeps, open_on, StaysTold}
use Rattle.run_session.proofs.sessions.Session.send_due.Given as goal

-- what was sent so far
abbrev pub invariant-loop-command : goal.invariant-loop-command
invariant-loop-command l = Keeps l.fn.self l.self × ((l.self.book ≡ l.fn.self.book)
    × (StaysTold l.fn.self l.self × (open_on l.self ≡ open_on l.fn.self)))
