use Rattle.std.proofs.Common.{ap, false, OnErr, OnOk, refl, subst, sym, true}
use Rattle.effects.specs.Effects.{Reply, the_reply}
use Rattle.services.specs.Sessions.{Breaks, Brings, left, State}
use Rattle.services.specs.declared.stages.Stage.{Stage}
use Rattle.services.proofs.Served.{BringsNone, heard_lost, heard_ok, left_serves, may_go, unreceived}
use Rattle.services.proofs.sessions.Session.received.Goals as goal

pub returns-in-Bytes-clause-served : goal.returns-in-Bytes-clause-served
returns-in-Bytes-clause-served c =
    subst (λ (r : Reply). OnOk c.came.result (Brings false c.args.self.now r c.came.new.self)) (sym (ap the_reply c.in-Bytes.is))
    (heard_ok c.came.result c.args.self.now c.came.new.self c.in-Bytes.piece.now c.requires c.came.ensures.hears)

pub returns-in-Bytes-clause-lost : goal.returns-in-Bytes-clause-lost
returns-in-Bytes-clause-lost c =
    subst (λ (r : Reply). OnErr c.came.result (Brings true c.args.self.now r (left c.came.new.self))) (sym (ap the_reply c.in-Bytes.is))
    (heard_lost c.came.result c.args.self.now (left c.came.new.self) c.in-Bytes.piece.now c.requires c.came.ensures.lost)

pub returns-in-Short-clause-lost : goal.returns-in-Short-clause-lost
returns-in-Short-clause-lost c =
    left_serves true c.args.self.now (left c.args.self.now) Stage.Receiving (the_reply c.args.answer) c.requires
    (subst (λ (r : Reply). BringsNone Stage.Receiving r) (sym (ap the_reply c.in-Short.is)) (λ out f. refl)) (λ next. refl) refl

pub returns-in-End-clause-served : goal.returns-in-End-clause-served
returns-in-End-clause-served c =
    left_serves false c.args.self.now c.leave.new.self Stage.Receiving (the_reply c.args.answer) c.requires
    (subst (λ (r : Reply). BringsNone Stage.Receiving r) (sym (ap the_reply c.in-End.is)) (λ out f. refl)) (λ next. refl)
    (ap (λ (s : State). s.talk) c.leave.ensures)

pub returns-in_default-clause-served : goal.returns-in_default-clause-served
returns-in_default-clause-served c =
    left_serves false c.args.self.now c.fail.new.self Stage.Receiving (the_reply c.args.answer) c.requires
    (unreceived c.args.answer c.in_default.not-Bytes c.in_default.not-Nothing).0 (λ next. refl) (ap (λ (s : State). s.talk) c.fail.ensures.new)

pub returns-in_default-clause-stays : goal.returns-in_default-clause-stays
returns-in_default-clause-stays c = may_go c.args.self.now c.fail.new.self Stage.Receiving (the_reply c.args.answer) c.requires
    (unreceived c.args.answer c.in_default.not-Bytes c.in_default.not-Nothing).1

pub returns-in-Bytes-clause-breaks : goal.returns-in-Bytes-clause-breaks
returns-in-Bytes-clause-breaks c =
    subst (λ (r : Reply). OnOk c.came.result (Breaks c.args.self.now r c.came.new.self)) (sym (ap the_reply c.in-Bytes.is)) c.came.ensures.breaks
