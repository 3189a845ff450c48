use Rattle.dme_line.proofs.Names.{None, tokens}
use Rattle.dme_line.proofs.PlaceLemmas.{no_move}
use Rattle.dme_line.proofs.places.read_move.Goals as goal

pub returns-in-None : goal.returns-in-None
returns-in-None c p = c.in-None.ensures p None

pub returns-in-Some-default-Some : goal.returns-in-Some-default-Some
returns-in-Some-default-Some c =
    let some = c.in-Some-default-Some.field-0-1-is in
    no_move (tokens c.args.bytes.now) c.in-Some-default-Some.field-0-0 c.in-Some-default-Some.field-0-1 c.in-Some-default-Some.ensures
    (λ e. cc)
