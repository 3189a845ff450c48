use Rattle.dmis_text.proofs.Blanks.{without_blanks}
use Rattle.dmis_text.proofs.Capitals.{between_blanks}
use Rattle.dmis_text.proofs.bytes.trimmed.Goals as goal

pub returns-then-bytes-count-gt32-clause-trimmed : goal.returns-then-bytes-count-gt32-clause-trimmed
returns-then-bytes-count-gt32-clause-trimmed c = without_blanks c.args.bytes.now c.if-count-gt0.true c.if-bytes-gt32.true
    c.if-bytes-count-gt32.true

pub returns-clause-folded : goal.returns-clause-folded
returns-clause-folded c = λ kept.
    between_blanks c.args.bytes.now _ _ _ c.without_front_blanks.ensures c.split_end_blanks.ensures.whole kept
