use Rattle.record_text.proofs.WholeTexts.{whole_at}
use Rattle.record_text.proofs.opening.whole_length.Goals as goal

pub returns-then-bytes-held-eq10-clause-whole : goal.returns-then-bytes-held-eq10-clause-whole
returns-then-bytes-held-eq10-clause-whole c = whole_at c.args.bytes.now c.loop-held.held c.loop-held-test.true c.loop-held.invariant.within
    c.if-bytes-held-eq10.true c.loop-held.invariant.none
