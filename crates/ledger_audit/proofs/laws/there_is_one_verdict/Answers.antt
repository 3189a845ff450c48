use Rattle.ledger_audit.proofs.OneVerdict.{at_most_same, fewest_same}
use Rattle.ledger_audit.proofs.laws.there_is_one_verdict.Goals as goal

pub returns-clause-starts : goal.returns-clause-starts
returns-clause-starts c = λ ws fs made ss ts runs least other_runs other_least.
    at_most_same ss ts (least ts other_runs) (other_least ss runs)

pub returns-clause-counts : goal.returns-clause-counts
returns-clause-counts c = fewest_same
