use Rattle.run_session.proofs.Names.{◌≡◌, Keeps}
use Rattle.run_session.proofs.sessions.Session.came.Given as goal

-- what was heard so far
abbrev pub invariant-loop-line : goal.invariant-loop-line
invariant-loop-line l = Keeps l.fn.self l.self × (l.self.book ≡ l.fn.self.book)
