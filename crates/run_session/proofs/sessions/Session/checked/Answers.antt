use Rattle.effects.specs.Effects.{the_reply}
use Rattle.effects.specs.declared.vocabulary.Answer.{Answer}
use Rattle.run_session.proofs.Names.{Keeps, OnErr, OnOk, Stage, subst, sym}
use Rattle.run_session.specs.Records.{is_stop, IsShort, stopped}
use Rattle.run_session.proofs.sessions.Session.checked.Goals as goal

pub returns-in-Found-clause-ran : goal.returns-in-Found-clause-ran
returns-in-Found-clause-ran c =
    subst (λ (a : Answer). OnOk c.stop.result (Keeps (stopped (is_stop Stage.Checking (the_reply a)) c.args.self.now) c.stop.new.self))
    (sym c.in-Found.is) c.stop.ensures.ran

pub returns-in-Found-clause-spent : goal.returns-in-Found-clause-spent
returns-in-Found-clause-spent c =
    subst (λ (a : Answer). OnErr c.stop.result (IsShort (is_stop Stage.Checking (the_reply a)) c.args.self.now c.stop.new.self))
    (sym c.in-Found.is) c.stop.ensures.spent
