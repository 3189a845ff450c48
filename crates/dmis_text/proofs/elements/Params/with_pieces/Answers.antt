use Rattle.dmis_text.proofs.Continued.{pieces_to_last}
use Rattle.dmis_text.proofs.elements.Params.with_pieces.Goals as goal

pub returns : goal.returns
returns c = rw (c.in_ok-push.ensures.items, c.in_ok-element.ensures)
    (pieces_to_last c.in_ok-made.made.items c.args.texts.items c.in_ok-made.last.now c.args.bytes.now c.in_ok-made.ensures.pieces
    c.in_ok-made.ensures.last)
