use Rattle.run_session.proofs.Names.{ap, done_by, HasTold, held, IsFree, length, List, Ok, possible, refl, Send, State, subst, sym, ℕ}
use Rattle.run_session.proofs.ClientCalls.{call_keeps, unsent_keeps}
use Rattle.run_session.proofs.Noting.{send_noted}
use Rattle.run_session.proofs.Paces.{send_counts, stays, writes_count}
use Rattle.run_session.proofs.Reporting.{keeps_by}
use Rattle.run_session.proofs.Stops.{forgot_keeps, noted_keeps}
use Rattle.run_session.specs.Errors.{noted_by}
use Rattle.run_session.proofs.sessions.Session.send.Goals as goal

pub returns-in_err-send-clause-ran : goal.returns-in_err-send-clause-ran
returns-in_err-send-clause-ran c = keeps_by _ _ _ _ _ c.self.view_is
    (unsent_keeps c.in_err-send.field-0.0 c.self.inside.pauses.items c.self.inside.client c.send.new.self c.self.inside.growth c.self.inside.errors
    (λ b. subst (λ (s : State). IsFree b (held s.book.pauses) s.pair.end Send) (sym c.self.view_is) (c.requires.held, c.requires.read))
    c.in_err-send.ensures.refused)

pub returns-in_err-send-clause-told : goal.returns-in_err-send-clause-told
returns-in_err-send-clause-told c = λ has. (stays _ _ c.send.new.self c.self.view_is
    (writes_count c.send.result (possible Send c.self.inside.client) c.self.inside.client c.send.new.self
    (done_by Send c.self.inside.client) (send_counts c.self.inside.client) c.send.ensures.ok c.send.ensures.refused) has)

pub returns-in_err-note-clause-ran : goal.returns-in_err-note-clause-ran
returns-in_err-note-clause-ran c = λ w run. forgot_keeps w _ c.note.new.self (noted_by Send c.self.inside.client c.self.inside.errors)
    c.note.ensures.rest c.in_err-note.ensures.lost (keeps_by _ _ _ _ _ c.self.view_is
    (call_keeps c.self.inside.pauses.items Send c.self.inside.client c.send.new.self c.self.inside.growth c.self.inside.errors
    (noted_by Send c.self.inside.client c.self.inside.errors) tt
    (λ b. subst (λ (s : State). IsFree b (held s.book.pauses) s.pair.end Send) (sym c.self.view_is) (c.requires.held, c.requires.read))
    c.in_ok-send.ensures.can c.in_ok-send.ensures.ok refl) w run)

pub returns-in_err-note-clause-told : goal.returns-in_err-note-clause-told
returns-in_err-note-clause-told c = λ has. subst HasTold (sym c.note.ensures.rest) (stays _ _ c.send.new.self c.self.view_is
    (writes_count c.send.result (possible Send c.self.inside.client) c.self.inside.client c.send.new.self
    (done_by Send c.self.inside.client) (send_counts c.self.inside.client) c.send.ensures.ok c.send.ensures.refused) has)

pub returns-clause-ran : goal.returns-clause-ran
returns-clause-ran c = λ w run. noted_keeps w _ c.note.new.self (noted_by Send c.self.inside.client c.self.inside.errors) c.note.ensures.rest
    (send_noted {A = Unit {0}} {E = Unit {0}} (Ok tt) c.self.inside.client c.send.new.self _ c.kind-kind.result c.in-Some.command.now
    c.self.inside.errors c.note.new.self.talk
    c.in_ok-send.ensures.ok c.in_ok-send.ensures.sent c.in_ok-send.ensures.can c.in-Some.ensures.due c.kind-kind.ensures
    (ap (λ (l : List ℕ). length l) c.out-before.ensures) c.in_ok-note.ensures.noted) (keeps_by _ _ _ _ _ c.self.view_is
    (call_keeps c.self.inside.pauses.items Send c.self.inside.client c.send.new.self c.self.inside.growth c.self.inside.errors
    (noted_by Send c.self.inside.client c.self.inside.errors) tt
    (λ b. subst (λ (s : State). IsFree b (held s.book.pauses) s.pair.end Send) (sym c.self.view_is) (c.requires.held, c.requires.read))
    c.in_ok-send.ensures.can c.in_ok-send.ensures.ok refl) w run)

pub returns-clause-told : goal.returns-clause-told
returns-clause-told c = λ has. subst HasTold (sym c.note.ensures.rest) (stays _ _ c.send.new.self c.self.view_is
    (writes_count c.send.result (possible Send c.self.inside.client) c.self.inside.client c.send.new.self
    (done_by Send c.self.inside.client) (send_counts c.self.inside.client) c.send.ensures.ok c.send.ensures.refused) has)
