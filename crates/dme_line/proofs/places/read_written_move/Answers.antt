use Rattle.std.proofs.Common.{refl}
use Rattle.dme_line.proofs.WrittenLemmas.{written_move}
use Rattle.dme_line.proofs.places.read_written_move.Goals as goal

pub returns-then-is_closed : goal.returns-then-is_closed
returns-then-is_closed c = written_move _ c.args.bytes.now c.in-Some.rest.now c.in-Some.target c.in-Some.ensures refl
    (c.is_closed.ensures.0 c.if-is_closed.true)
