use Rattle.std.proofs.Common.{ap, false, subst, true}
use Rattle.effects.specs.Effects.{Bytes}
use Rattle.protocol_model.specs.Ends.{serving_left}
use Rattle.services.specs.Serving.{Talk}
use Rattle.services.specs.Sessions.{Breaks, Hears, left, State}
use Rattle.services.proofs.Breaking.{breaks_ok}
use Rattle.services.proofs.Served.{hears_lost, hears_ok, on_err, unheard_short}
use Rattle.services.proofs.sessions.Session.came.Goals as goal

pub returns-in_err-went-clause-lost : goal.returns-in_err-went-clause-lost
returns-in_err-went-clause-lost c = unheard_short c.from_residual.result _ c.args.self.now c.args.piece.now c.self.view_is

pub returns-in_err-work-clause-lost : goal.returns-in_err-work-clause-lost
returns-in_err-work-clause-lost c =
    on_err c.from_residual-in_err-work.result (Hears true c.args.self.now.talk c.args.piece.now (left c.work.new.self).talk)
    (subst (λ (s : State). Hears true s.talk c.args.piece.now (left c.work.new.self).talk) c.self.view_is c.in_err-work.ensures.lost)

pub returns-clause-hears : goal.returns-clause-hears
returns-clause-hears c = hears_ok c.note.result c.args.self.now.talk c.work.new.self.talk c.note.new.self.talk c.args.piece.now
    (subst (λ (s : State). Hears false s.talk c.args.piece.now c.work.new.self.talk) c.self.view_is c.in_ok-work.ensures.hears) c.note.ensures.talk

pub returns-clause-lost : goal.returns-clause-lost
returns-clause-lost c = hears_lost c.note.result c.args.self.now.talk c.work.new.self.talk (left c.note.new.self).talk c.args.piece.now
    (subst (λ (s : State). Hears false s.talk c.args.piece.now c.work.new.self.talk) c.self.view_is c.in_ok-work.ensures.hears)
    (ap (λ (k : Talk). record k { end = serving_left k.end }) c.note.ensures.talk)

pub returns-clause-breaks : goal.returns-clause-breaks
returns-clause-breaks c = breaks_ok c.note.result c.args.self.now c.work.new.self c.note.new.self (Bytes c.args.piece.now)
    (subst (λ (s : State). Breaks s (Bytes c.args.piece.now) c.work.new.self) c.self.view_is c.in_ok-work.ensures.breaks) c.note.ensures.talk
    c.note.ensures.broken
