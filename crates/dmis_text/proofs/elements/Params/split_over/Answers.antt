use Rattle.dmis_text.proofs.Names.{◌∙◌, ◌≡◌, IfOk, subst, sym}
use Rattle.dmis_text.proofs.Continued.{over_blanks}
use Rattle.dmis_text.proofs.elements.Params.split_over.Goals as goal

pub returns-then-is_all_blank : goal.returns-then-is_all_blank
returns-then-is_all_blank c = subst (λ all. IfOk c.with_pieces.result (λ params. params ≡ all)) (over_blanks c.in_ok-made.made.items
    c.reserve.new.self.items c.in_ok-made.last.now c.args.front.now c.args.behind.now c.in_ok-made.ensures.pieces
    (c.in_ok-reserve.ensures.items ∙ c.requires.empty) (sym c.is_all_blank.ensures ∙ c.if-is_all_blank.true)) c.with_pieces.ensures
