use Rattle.run_session.proofs.Names.{arith, refl, Stage, State, subst}
use Rattle.run_session.proofs.Steps.{nearer_at}
use Rattle.run_session.specs.Ends.{OverWithin, within}
use Rattle.run_session.proofs.sessions.Session.has_shown.Goals as goal

pub returns-clause-nears : goal.returns-clause-nears
returns-clause-nears c = nearer_at Stage.Showing 21 c.go_on.result c.args.self.now c.args.self.now c.go_on.new.self c.requires refl
    (record { stage = refl; spent = refl; over = refl; course = refl }) refl (omega arith)
    (subst (λ (x : State). OverWithin (within 21 x) c.go_on.result x c.go_on.new.self) c.self.view_is c.go_on.ensures.nears)
