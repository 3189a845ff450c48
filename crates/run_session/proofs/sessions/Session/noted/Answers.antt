use Rattle.run_session.proofs.Names.{◌∙◌, ap, Book, Keeps, State, subst}
use Rattle.effects.specs.Effects.{the_reply}
use Rattle.run_session.proofs.Dues.{noted_book, noted_is, told_further}
use Rattle.run_session.proofs.Steps.{noted_nears}
use Rattle.run_session.proofs.Stops.{on_ok}
use Rattle.run_session.proofs.sessions.Session.noted.Goals as goal

pub returns-clause-exact : goal.returns-clause-exact
returns-clause-exact c = on_ok c.record.result (subst (λ (x : State). Keeps x c.record.new.self)
    (noted_is c.args.self.now c.note_due.new.self c.close_notes.new.self (the_reply c.args.answer) c.in_ok-note_due.ensures.exact
    c.in_ok-close_notes.ensures.exact) c.record.ensures.ran)

pub returns-clause-book : goal.returns-clause-book
returns-clause-book c = noted_book c.args.self.now.book c.note_due.new.self.book c.close_notes.new.self.book c.record.new.self.book
    c.note_due.ensures.book c.close_notes.ensures.book c.record.ensures.book

pub returns-clause-passes : goal.returns-clause-passes
returns-clause-passes c = on_ok c.record.result (ap (λ (b : Book). b.noted) c.record.ensures.book ∙ ap (λ (x : State). x.book.noted)
    (noted_is c.args.self.now c.note_due.new.self c.close_notes.new.self (the_reply c.args.answer) c.in_ok-note_due.ensures.exact
    c.in_ok-close_notes.ensures.exact))

pub returns-clause-followed : goal.returns-clause-followed
returns-clause-followed c = told_further c.record.result c.args.self.now c.close_notes.new.self c.record.new.self
    (λ has. c.close_notes.ensures.told (c.note_due.ensures.told has)) c.record.ensures.followed

pub returns-clause-nears : goal.returns-clause-nears
returns-clause-nears c = noted_nears c.record.result c.args.self.now c.note_due.new.self c.close_notes.new.self c.record.new.self c.requires
    c.in_ok-close_notes.ensures.exact c.note_due.ensures.still c.close_notes.ensures.still c.record.ensures.nears
