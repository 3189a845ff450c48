use Rattle.run_session.proofs.Names.{◌∙◌, Bool, Keeps, OnErr, OnOk, subst, sym}
use Rattle.run_session.specs.Records.{IsShort, stopped}
use Rattle.run_session.proofs.sessions.Session.typed.Goals as goal

pub returns-then-declines-clause-ran : goal.returns-then-declines-clause-ran
returns-then-declines-clause-ran c = subst (λ (b : Bool). OnOk c.decline.result (Keeps (stopped b c.args.self.now) c.decline.new.self))
    (sym (c.requires ∙ (sym c.declines.ensures ∙ c.if-declines.true))) c.decline.ensures.ran

pub returns-then-declines-clause-spent : goal.returns-then-declines-clause-spent
returns-then-declines-clause-spent c = subst (λ (b : Bool). OnErr c.decline.result (IsShort b c.args.self.now c.decline.new.self))
    (sym (c.requires ∙ (sym c.declines.ensures ∙ c.if-declines.true))) c.decline.ensures.spent
