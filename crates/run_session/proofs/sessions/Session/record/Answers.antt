use Rattle.run_session.proofs.Names.{◌∙◌, ◌≤◌, ap, length, List, State, subst, sym, ℕ}
use Rattle.run_session.proofs.Paces.{enough_filed, lost_files, told_on}
use Rattle.run_session.proofs.sessions.Session.record.Goals as goal

pub returns-then-self-clause-followed : goal.returns-then-self-clause-followed
returns-then-self-clause-followed c = told_on c.report.result c.args.self.now c.report.new.self c.is_over.result
    (lost_files c.args.self.now (sym (ap (λ (s : State). s.book.lost) c.self.view_is) ∙ c.if-self.true))
    (sym c.has_to_note.ensures ∙ c.if-has_to_note.false) c.report.ensures.followed

pub returns-else-self-text-clause-followed : goal.returns-else-self-text-clause-followed
returns-else-self-text-clause-followed c = told_on c.report-else-self-text.result c.args.self.now c.report-else-self-text.new.self c.is_over.result
    (enough_filed c.args.self.now (subst (λ (s : State). length s.pair.recording.text ≤ s.book.filed) c.self.view_is
    (subst (λ (t : List ℕ). length t ≤ c.self.inside.filed) c.text.ensures c.if-self-text.false)))
    (sym c.has_to_note.ensures ∙ c.if-has_to_note.false) c.report-else-self-text.ensures.followed
