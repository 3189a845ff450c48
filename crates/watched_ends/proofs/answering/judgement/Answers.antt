use Rattle.watched_ends.proofs.Judgements.{empty, plain}
use Rattle.watched_ends.proofs.answering.judgement.Goals as goal

pub returns : goal.returns
returns c =
    plain c.args.up.now c.args.down.now c.args.order.now c.in_ok-judgement.judgement c.in_ok-text.text.items c.in_ok-text.status
    (empty c.args.order.now c.if-not-is_empty.ensures) c.in_ok-judgement.ensures c.in_ok-text.ensures.text c.in_ok-text.ensures.status
