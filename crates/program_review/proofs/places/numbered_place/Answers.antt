use Rattle.program_review.proofs.Outside.{caused_by, IfOk-weaker}
use Rattle.program_review.proofs.PlaceLemmas.{placed}
use Rattle.program_review.proofs.places.numbered_place.Goals as goal

pub returns : goal.returns
returns c =
    IfOk-weaker c.place_text.result _ _
    (λ text e. placed c.args.fault.now _ _ _ _ _ _ (caused_by c.in_ok-reason.reason) _ _ _ c.from_line.ensures.lines c.first_line-line.ensures
    c.in_ok-reason.ensures c.shown_start-start.ensures.start c.in_ok-shown.ensures e)
    c.place_text.ensures
