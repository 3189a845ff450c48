use Rattle.std.specs.Prelude.{unsigned_abs}
use Rattle.dme_line.proofs.PlaceLemmas.{not_refused}
use Rattle.dme_line.proofs.lengths.length_within.Goals as goal

pub returns-in-Err : goal.returns-in-Err
returns-in-Err c value h = not_refused 3 (unsigned_abs c.args.limit) c.args.numeral.now value c.in-Err.field-0 h c.in-Err.ensures
