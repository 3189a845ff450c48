use Rattle.effects.specs.Effects.{the_reply}
use Rattle.effects.specs.declared.vocabulary.Answer.{Answer}
use Rattle.run_session.proofs.Names.{◌∙◌, ap}
use Rattle.run_session.proofs.Dues.{adds_more, due_said}
use Rattle.run_session.proofs.Reporting.{notes_keep}
use Rattle.run_session.specs.Records.{time_of}
use Rattle.run_session.proofs.sessions.Session.note_due.Goals as goal

pub returns-in_err-add_notes-clause-ran : goal.returns-in_err-add_notes-clause-ran
returns-in_err-add_notes-clause-ran c = notes_keep _ _ _ c.self.view_is c.add_notes.ensures.adds

pub returns-clause-ran : goal.returns-clause-ran
returns-clause-ran c = notes_keep _ _ _ c.self.view_is
    (adds_more c.self.inside.growth c.add_notes.new.growth c.add_notes-2.new.growth c.add_notes.ensures.adds c.add_notes-2.ensures.adds)

pub returns-clause-exact : goal.returns-clause-exact
returns-clause-exact c = due_said c.add_notes-2.result _ c.args.self.now (time_of (the_reply c.args.answer)) c.in-Bytes.time.now c.given.result.now
    c.as_slice.result.now c.add_notes.new.growth c.add_notes-2.new.growth c.self.view_is (ap (λ (a : Answer). time_of (the_reply a)) c.in-Bytes.is)
    c.given.ensures (c.as_slice.ensures.value ∙ c.in_ok-made.ensures) c.in_ok-add_notes.ensures.exact c.add_notes-2.ensures.exact
