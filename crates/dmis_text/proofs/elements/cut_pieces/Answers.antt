use Rattle.dmis_text.proofs.Names.{◌++◌, ◌∙◌, ap, append_assoc, element_of, List, map, refl, sym, ℕ}
use Rattle.dmis_text.proofs.Capitals.{front_of_cut, behind_cut}
use Rattle.dmis_text.proofs.Commas.{behind_bare}
use Rattle.dmis_text.proofs.Continued.{pieces_more}
use Rattle.dmis_text.proofs.elements.cut_pieces.Goals as goal

pub element-requires : goal.element-requires
element-requires c = λ capitals. front_of_cut 44 _ _ _ c.in-Some.ensures.cut (c.loop-piece.invariant.1 capitals)

pub loop-piece-preserved : goal.loop-piece-preserved
loop-piece-preserved c = (
  λ more. rw (c.in_ok-push.ensures.items, c.in_ok-element.ensures, append_assoc)
      (ap (λ (ps : List (List ℕ)). c.loop-piece.made.items ++ map element_of ps) (sym (pieces_more
      c.loop-piece.rest.now c.in-Some.piece.now c.in-Some.behind.now more c.in-Some.ensures.cut))
      ∙ c.loop-piece.invariant.0 more),
  λ capitals. behind_cut 44 _ _ _ c.in-Some.ensures.cut (c.loop-piece.invariant.1 capitals) refl,
  λ bare. behind_bare 44 c.loop-piece.rest.now _ _ c.in-Some.ensures.cut (c.loop-piece.invariant.2 bare),
)
