use Rattle.program_review.proofs.TextPlaces.{one_more}
use Rattle.program_review.proofs.texts.text_places.Goals as goal

pub loop-text-preserved : goal.loop-text-preserved
loop-text-preserved c = one_more c.args.waits.at_texts c.args.waits.at_begin c.left_after-last.result.last c.as_slice-lines.result.now
    c.left_after-last.result.tasks.now c.loop-text.text-index c.args.texts.now c.text-item.result _ _ _ c.loop-text-test.true c.text-item.is
    c.in_ok-push_place.ensures c.loop-text.invariant
