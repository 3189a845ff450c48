use Rattle.effects.specs.Effects.{the_reply}
use Rattle.run_session.proofs.Names.{◌∙◌, ap, arith, Follows, IsRunOf, OnOk, refl, Stage, State, subst, sym}
use Rattle.run_session.proofs.Steps.{nearer_at, quiet_due, quiet_still}
use Rattle.run_session.specs.Ends.{OverWithin, within}
use Rattle.run_session.proofs.sessions.Session.has_listed.Goals as goal

pub returns-in-Done-clause-ran : goal.returns-in-Done-clause-ran
returns-in-Done-clause-ran c = λ w run. c.show_features.ensures.ran w (subst (λ (s : State). IsRunOf w s) (sym c.note_listed.ensures.quiet) run)

pub returns : goal.returns
returns c = record {
  ran = λ w run. c.show_features-2.ensures.ran w (subst (λ (s : State). IsRunOf w s) (sym (c.in_ok-lose.ensures ∙ c.note_listed.ensures.quiet)) run);
  book = c.show_features-2.ensures.book ∙ ap (λ (s : State). s.book) (c.in_ok-lose.ensures ∙ c.note_listed.ensures.quiet);
  due = c.show_features-2.ensures.due;
  nears = nearer_at Stage.Listing 22 c.show_features-2.result c.args.self.now c.note_listed.new.self c.show_features-2.new.self c.requires refl
      (quiet_still c.args.self.now c.note_listed.new.self (the_reply c.args.answer) c.note_listed.ensures.quiet c.note_listed.ensures.stage)
      (quiet_due c.args.self.now c.note_listed.new.self (the_reply c.args.answer) c.note_listed.ensures.quiet) (omega arith)
      (subst (λ (x : State). OverWithin (within 22 x) c.show_features-2.result x c.show_features-2.new.self) c.in_ok-lose.ensures
      c.show_features-2.ensures.nears);
  followed = subst (λ (s : State). OnOk c.show_features-2.result (Follows s c.show_features-2.new.self)) (c.in_ok-lose.ensures ∙ c.note_listed.ensures.quiet) c.show_features-2.ensures.followed;
}

pub returns-in-Done-clause-nears : goal.returns-in-Done-clause-nears
returns-in-Done-clause-nears c = nearer_at Stage.Listing 22 c.show_features.result c.args.self.now c.note_listed.new.self c.show_features.new.self
    c.requires refl
    (quiet_still c.args.self.now c.note_listed.new.self (the_reply c.args.answer) c.note_listed.ensures.quiet c.note_listed.ensures.stage)
    (quiet_due c.args.self.now c.note_listed.new.self (the_reply c.args.answer) c.note_listed.ensures.quiet) (omega arith)
    c.show_features.ensures.nears
