use Rattle.run_session.proofs.Names.{◌++◌, ◌∙◌, ◌≡◌, ap, codes, get_or, List, subst, sym, ℕ}
use Rattle.std.specs.Fmt.{decimal}
use Rattle.std.specs.Prelude.{IfOk, string_bytes}
use Rattle.dme_line.specs.declared.commands.Kind.{Kind}
use Rattle.dmis_program.specs.declared.features.Wanted.{Wanted}
use Rattle.run_session.specs.Errors.{touch_of}
use Rattle.run_session.proofs.Touches.{beyond, named, other}
use Rattle.session_telling.specs.Places.{IsBeyond, IsPlace}
use Rattle.run_session.proofs.errors.touch.Goals as goal

pub returns-in_default : goal.returns-in_default
returns-in_default c = c.new.ensures.bytes ∙ sym (other c.args.features.now c.args.sent.kind c.args.sent.touches c.in_default.not-PtMeas)

pub returns-in_default-place_of : goal.returns-in_default-place_of
returns-in_default-place_of c = c.new-in_default-place_of.ensures.bytes
    ∙ sym (ap (λ (k : Kind). touch_of c.args.features.now k c.args.sent.touches) c.in-PtMeas.is
    ∙ beyond c.args.features.now c.args.sent.touches
    (subst (λ (l : List ℕ). IsBeyond l c.args.sent.touches) (c.as_slice.ensures.value ∙ c.in_ok-counts.ensures) c.in_default-place_of.ensures))

pub returns : goal.returns
returns c =
    let is : touch_of c.args.features.now c.args.sent.kind c.args.sent.touches
    ≡ codes ", " ++ ((get_or c.args.features.now c.in-Some.at c.index-features-at.result).label ++ (codes ", touch " ++ decimal c.in-Some.touch)) =
    ap (λ (k : Kind). touch_of c.args.features.now k c.args.sent.touches) c.in-PtMeas.is
    ∙ named c.args.features.now c.args.sent.touches c.in-Some.at c.in-Some.touch c.index-features-at.result
    (subst (λ (l : List ℕ). IsPlace l c.args.sent.touches c.in-Some.at c.in-Some.touch) (c.as_slice.ensures.value ∙ c.in_ok-counts.ensures) c.in-Some.ensures)
    c.index-features-at.is
    ∙ ap (λ (f : Wanted). codes ", " ++ (f.label ++ (codes ", touch " ++ decimal c.in-Some.touch))) c.index-features-at.is in
    subst (λ (x : List ℕ). IfOk c.format.result (λ text. string_bytes text ≡ x)) (sym is) c.format.ensures.ok
