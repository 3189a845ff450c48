use Rattle.watched_ends.proofs.LimitLemmas.{stop_read}
use Rattle.watched_ends.proofs.limits.read_most.Goals as goal

pub returns-clause-stop : goal.returns-clause-stop
returns-clause-stop c = λ over.
    stop_read c.args.witness.now c.read_within.new.self (c.in_ok-read_within.ensures.client c.if-branch.false)
    (c.in_ok-read_within.ensures.server c.if-branch.false)
