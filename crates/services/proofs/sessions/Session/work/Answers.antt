use Rattle.std.proofs.Common.{◌≡◌, inl, inr, refl, subst, sym, ◌++◌, ap, ◌∙◌, false, true, true≢false, List, ℕ, Some}
use Rattle.services.specs.Sessions.{Hears, State}
use Rattle.services.specs.Serving.{GoesOnWith, Talk}
use Rattle.protocol_model.specs.Ends.{serving_left}
use Rattle.services.proofs.Breaking.{bytes_or_done}
use Rattle.services.proofs.Served.{broken_goes, moved_hears, moved_lost, moved_on, on_err, one_source, stopped_hears, stopped_lost, unheard_lost}
use Rattle.services.proofs.Working.{turn_more}
use Rattle.byte_ports.specs.Pieces.{PiecesValue}
use Rattle.services.proofs.sessions.Session.work.Goals as goal

pub returns-in_err-add-clause-lost : goal.returns-in_err-add-clause-lost
returns-in_err-add-clause-lost c =
    let t : Talk = c.args.self.now.talk in
    let u : Talk = record { end = serving_left t.end; shifts = t.shifts; number = t.number; out = t.out } in
    on_err c.from_residual.result (Hears true t c.args.piece.now u) (unheard_lost t u c.args.piece.now refl refl refl)

pub returns-in_err-extend_from_slice-in-Ok-clause-lost : goal.returns-in_err-extend_from_slice-in-Ok-clause-lost
returns-in_err-extend_from_slice-in-Ok-clause-lost c =
    let t : Talk = record { end = c.self.inside.server.end; shifts = c.self.inside.machine; number = c.self.inside.number; out = c.self.inside.out.items } in
    let u : Talk = record {
      end = serving_left c.serve_turns-turned.new.server.end;
      shifts = c.serve_turns-turned.new.machine;
      number = c.self.inside.number;
      out = c.extend_from_slice.new.self.items;
    } in
    on_err c.from_residual-in_err-extend_from_slice-in-Ok.result (Hears true c.args.self.now.talk c.args.piece.now u)
    (subst (λ (s : State). Hears true s.talk c.args.piece.now u) c.self.view_is
    (moved_lost t u c.serve_turns-turned.new.server.end c.args.piece.now _ _ _ _ _
    (one_source c.new-source.result c.add.new.self c.args.piece.now (ap (λ (p : PiecesValue). p.pieces) c.new-source.ensures) c.in_ok-add.ensures.stored)
    (ap Some c.new-sink.ensures.taken) c.in-Ok.ensures.moved.whole refl c.in-Ok.ensures.keeps refl))

pub returns-in-Ok-clause-more : goal.returns-in-Ok-clause-more
returns-in-Ok-clause-more c =
    let more = turn_more _ _ _ _ _ _ _ (c.in-Ok.ensures.moved.whole.turn) in
    (more.0, more.1 ∙ ap (λ (s : State). s.core.ledger ++ more.0) c.self.view_is)

pub returns-in-Ok-clause-hears : goal.returns-in-Ok-clause-hears
returns-in-Ok-clause-hears c =
    let t : Talk = record { end = c.self.inside.server.end; shifts = c.self.inside.machine; number = c.self.inside.number; out = c.self.inside.out.items } in
    let u : Talk = record {
      end = c.serve_turns-turned.new.server.end;
      shifts = c.serve_turns-turned.new.machine;
      number = c.self.inside.number;
      out = c.extend_from_slice.new.self.items;
    } in
    subst (λ (s : State). Hears false s.talk c.args.piece.now u) c.self.view_is
    (moved_hears t u c.args.piece.now _ _ _ _ _
    (one_source c.new-source.result c.add.new.self c.args.piece.now (ap (λ (p : PiecesValue). p.pieces) c.new-source.ensures) c.in_ok-add.ensures.stored)
    (ap Some c.new-sink.ensures.taken) c.in-Ok.ensures.moved.whole c.in-Ok.ensures.keeps refl
    (c.in_ok-extend_from_slice-in-Ok.ensures.items ∙ ap (λ (l : List ℕ). c.self.inside.out.items ++ l) c.taken.ensures))

pub returns-in-Ok-clause-goes : goal.returns-in-Ok-clause-goes
returns-in-Ok-clause-goes c =
    let t : Talk = record { end = c.self.inside.server.end; shifts = c.self.inside.machine; number = c.self.inside.number; out = c.self.inside.out.items } in
    let u : Talk = record {
      end = c.serve_turns-turned.new.server.end;
      shifts = c.serve_turns-turned.new.machine;
      number = c.self.inside.number;
      out = c.extend_from_slice.new.self.items;
    } in
    let on : c.args.self.now.talk.end.server.on ≡ true → u.end.server.on ≡ true =
    subst (λ (s : State). s.talk.end.server.on ≡ true → u.end.server.on ≡ true) c.self.view_is
    (moved_on t u c.args.piece.now _ _ _ _ _ c.in-Ok.ensures.moved.whole) in
    λ was. inl (on was)

pub returns-in-Ok-clause-breaks : goal.returns-in-Ok-clause-breaks
returns-in-Ok-clause-breaks c =
    let t : Talk = record { end = c.self.inside.server.end; shifts = c.self.inside.machine; number = c.self.inside.number; out = c.self.inside.out.items } in
    let u : Talk = record {
      end = c.serve_turns-turned.new.server.end;
      shifts = c.serve_turns-turned.new.machine;
      number = c.self.inside.number;
      out = c.extend_from_slice.new.self.items;
    } in
    let on : c.args.self.now.talk.end.server.on ≡ true → u.end.server.on ≡ true =
    subst (λ (s : State). s.talk.end.server.on ≡ true → u.end.server.on ≡ true) c.self.view_is
    (moved_on t u c.args.piece.now _ _ _ _ _ c.in-Ok.ensures.moved.whole) in
    λ h. elim h [
      | inl was ↦ ap (λ (s : State). s.core.broken) c.self.view_is ∙ was
      | inr off ↦ elim off.1.1 [
        | inl was ↦ absurd (true≢false (sym (on was) ∙ off.0))
        | inr taken ↦ absurd (bytes_or_done c.args.piece.now taken.1)
      ]
    ]

pub returns-in_err-why-in-Err-clause-lost : goal.returns-in_err-why-in-Err-clause-lost
returns-in_err-why-in-Err-clause-lost c =
    let t : Talk = record { end = c.self.inside.server.end; shifts = c.self.inside.machine; number = c.self.inside.number; out = c.self.inside.out.items } in
    let v : Talk = record {
      end = serving_left c.serve_turns-turned.new.server.end;
      shifts = c.serve_turns-turned.new.machine;
      number = c.self.inside.number;
      out = c.self.inside.out.items;
    } in
    on_err c.from_residual-in_err-why-in-Err.result (Hears true c.args.self.now.talk c.args.piece.now v)
    (subst (λ (s : State). Hears true s.talk c.args.piece.now v) c.self.view_is
    (stopped_lost t v c.serve_turns-turned.new.server.end c.args.piece.now _ _ _ _ _
    (one_source c.new-source.result c.add.new.self c.args.piece.now (ap (λ (p : PiecesValue). p.pieces) c.new-source.ensures) c.in_ok-add.ensures.stored)
    (ap Some c.new-sink.ensures.taken) c.in-Err.ensures.stopped.front refl c.in-Err.ensures.keeps refl))

pub returns-clause-more : goal.returns-clause-more
returns-clause-more c =
    let front = c.in-Err.ensures.stopped.front in
    let more = turn_more _ _ _ _ _ _ _ front.turn in (
      more.0,
      ap (λ (s : State). s.core.ledger) c.break_off.ensures.new
          ∙ (ap (λ e. e.server.ledger) front.leaves ∙ (more.1 ∙ ap (λ (s : State). s.core.ledger ++ more.0) c.self.view_is)),
    )

pub returns-clause-hears : goal.returns-clause-hears
returns-clause-hears c =
    let t : Talk = record { end = c.self.inside.server.end; shifts = c.self.inside.machine; number = c.self.inside.number; out = c.self.inside.out.items } in
    let u : Talk = record {
      end = c.serve_turns-turned.new.server.end;
      shifts = c.serve_turns-turned.new.machine;
      number = c.self.inside.number;
      out = c.self.inside.out.items;
    } in
    subst (λ (k : Talk). Hears false c.args.self.now.talk c.args.piece.now k) (sym (ap (λ (s : State). s.talk) c.break_off.ensures.new))
    (subst (λ (s : State). Hears false s.talk c.args.piece.now u) c.self.view_is
    (stopped_hears t u c.args.piece.now _ _ _ _ _
    (one_source c.new-source.result c.add.new.self c.args.piece.now (ap (λ (p : PiecesValue). p.pieces) c.new-source.ensures) c.in_ok-add.ensures.stored)
    (ap Some c.new-sink.ensures.taken) c.in_ok-why-in-Err.ensures c.in-Err.ensures.stopped.front c.in-Err.ensures.keeps refl))

pub returns-clause-goes : goal.returns-clause-goes
returns-clause-goes c =
    let t : Talk = record { end = c.self.inside.server.end; shifts = c.self.inside.machine; number = c.self.inside.number; out = c.self.inside.out.items } in
    let u : Talk = record {
      end = c.serve_turns-turned.new.server.end;
      shifts = c.serve_turns-turned.new.machine;
      number = c.self.inside.number;
      out = c.self.inside.out.items;
    } in
    subst (λ (k : Talk). GoesOnWith c.args.self.now.talk c.args.piece.now k) (sym (ap (λ (s : State). s.talk) c.break_off.ensures.new))
    (subst (λ (s : State). GoesOnWith s.talk c.args.piece.now u) c.self.view_is
    (broken_goes t u c.args.piece.now _ _ _ _ _
    (one_source c.new-source.result c.add.new.self c.args.piece.now (ap (λ (p : PiecesValue). p.pieces) c.new-source.ensures) c.in_ok-add.ensures.stored)
    c.in_ok-why-in-Err.ensures c.in-Err.ensures.stopped.front))
