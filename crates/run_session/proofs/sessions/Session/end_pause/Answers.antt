use Rattle.run_session.proofs.Names.{◌≤◌, arith, held as held_of, length, State, subst, sym}
use Rattle.run_session.proofs.Pauses.{pause_ends}
use Rattle.run_session.proofs.Reporting.{keeps_by}
use Rattle.run_session.proofs.sessions.Session.end_pause.Goals as goal

pub returns-then-uncounted-held-clause-ran : goal.returns-then-uncounted-held-clause-ran
returns-then-uncounted-held-clause-ran c =
    let few = c.if-uncounted-held.true in
    let counted = c.uncounted.ensures in
    let held = c.held.ensures in
    let all : length c.self.inside.client.client.table.tally.todo ≤ held_of c.args.self.now.book.pauses = omega (arith, few, counted, held) in
    keeps_by _ _ _ _ _ c.self.view_is (pause_ends c.self.inside.pauses.items c.remove.new.self.items (record { end = c.self.inside.client; recording = c.self.inside.growth }) c.self.inside.errors
    c.remove.ensures.by_index.2
    (subst (λ (s : State). length c.self.inside.client.client.table.tally.todo ≤ held_of s.book.pauses) (sym c.self.view_is) all))
