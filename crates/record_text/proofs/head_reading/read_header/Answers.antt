use Rattle.record_text.proofs.HeadSteps.{same_number}
use Rattle.record_text.proofs.StageRuns.{bad_first}
use Rattle.record_text.proofs.head_reading.read_header.Goals as goal

pub returns-in_default-version_of-clause-damaged : goal.returns-in_default-version_of-clause-damaged
returns-in_default-version_of-clause-damaged c n e = bad_first c.args.bytes.now _ c.in-Some.line.now n (same_number 1 n e) c.in-Some.ensures.cut
    c.in_default-version_of.ensures
