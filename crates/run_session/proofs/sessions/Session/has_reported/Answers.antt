use Rattle.effects.specs.Effects.{the_reply}
use Rattle.run_session.proofs.Names.{◌∙◌, ap, arith, Follows, IsRunOf, OnOk, refl, Stage, State, subst, sym}
use Rattle.run_session.proofs.Steps.{answered_due, answered_still, nearer_at}
use Rattle.run_session.proofs.sessions.Session.has_reported.Goals as goal

pub returns-in-Done-clause-ran : goal.returns-in-Done-clause-ran
returns-in-Done-clause-ran c = λ w run. c.list.ensures.ran w (subst (λ (s : State). IsRunOf w s) (sym c.note_reported.ensures) run)

pub returns : goal.returns
returns c = record {
  ran = λ w run. c.list-2.ensures.ran w (subst (λ (s : State). IsRunOf w s) (sym (c.in_ok-lose.ensures ∙ c.note_reported.ensures)) run);
  book = c.list-2.ensures.book ∙ ap (λ (s : State). s.book) (c.in_ok-lose.ensures ∙ c.note_reported.ensures);
  due = c.list-2.ensures.due;
  nears = nearer_at Stage.Reporting 23 c.list-2.result c.args.self.now c.lose.new.self c.list-2.new.self c.requires refl
      (answered_still c.args.self.now c.lose.new.self (the_reply c.args.answer) (c.in_ok-lose.ensures ∙ c.note_reported.ensures))
      (answered_due c.args.self.now c.lose.new.self (the_reply c.args.answer) (c.in_ok-lose.ensures ∙ c.note_reported.ensures))
      (omega arith) c.list-2.ensures.nears;
  followed = subst (λ (s : State). OnOk c.list-2.result (Follows s c.list-2.new.self)) (c.in_ok-lose.ensures ∙ c.note_reported.ensures) c.list-2.ensures.followed;
}

pub returns-in-Done-clause-nears : goal.returns-in-Done-clause-nears
returns-in-Done-clause-nears c = nearer_at Stage.Reporting 23 c.list.result c.args.self.now c.note_reported.new.self c.list.new.self c.requires refl
    (answered_still c.args.self.now c.note_reported.new.self (the_reply c.args.answer) c.note_reported.ensures)
    (answered_due c.args.self.now c.note_reported.new.self (the_reply c.args.answer) c.note_reported.ensures) (omega arith) c.list.ensures.nears
