use Rattle.std.proofs.Common.{true, false, subst}
use Rattle.witness.specs.Orders.{HasFirst}
use Rattle.watched_ends.proofs.Judgements.{found, ordered}
use Rattle.watched_ends.proofs.answering.ordered_judgement.Goals as goal

pub returns-then-is_whole : goal.returns-then-is_whole
returns-then-is_whole c =
    ordered c.args.up.now c.args.down.now c.args.order.now c.in-Some-first_bytes.up.now c.in-Some-first_bytes.down.now c.in-Some.pieces.items
    c.as_slice.result.now c.as_slice-2.result.now true c.in_ok-judgement.judgement c.in_ok-text.text.items c.in_ok-text.status
    (found _ _ c.in_ok-pieces.field-0 c.in-Some.pieces c.in-Some.is c.in_ok-pieces.ensures) c.as_slice.ensures.value
    (subst (HasFirst c.args.up.now c.args.down.now c.as_slice.result.now) c.if-is_whole.true c.in-Some-first_bytes.ensures.first)
    c.in-Some-first_bytes.ensures.up c.in-Some-first_bytes.ensures.down c.as_slice-2.ensures.value
    c.in_ok-judgement.ensures c.in_ok-text.ensures.text c.in_ok-text.ensures.status

pub returns : goal.returns
returns c =
    ordered c.args.up.now c.args.down.now c.args.order.now c.in-Some-first_bytes.up.now c.in-Some-first_bytes.down.now c.in-Some.pieces.items
    c.as_slice.result.now c.as_slice-2.result.now false c.in_ok-judgement.judgement c.in_ok-text.text.items c.in_ok-text.status
    (found _ _ c.in_ok-pieces.field-0 c.in-Some.pieces c.in-Some.is c.in_ok-pieces.ensures) c.as_slice.ensures.value
    (subst (HasFirst c.args.up.now c.args.down.now c.as_slice.result.now) c.if-is_whole.false c.in-Some-first_bytes.ensures.first)
    c.in-Some-first_bytes.ensures.up c.in-Some-first_bytes.ensures.down c.as_slice-2.ensures.value
    c.in_ok-judgement.ensures c.in_ok-text.ensures.text c.in_ok-text.ensures.status
