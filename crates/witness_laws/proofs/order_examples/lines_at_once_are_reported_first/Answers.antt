use Rattle.witness_laws.proofs.Names.{refl}
use Rattle.witness_laws.proofs.orders.Readings.{home_reads, untagged_reads, received_reads, ended_reads}
use Rattle.witness_laws.proofs.order_examples.lines_at_once_are_reported_first.Goals as goal

pub returns-clause-at_once : goal.returns-clause-at_once
returns-clause-at_once c = rw (home_reads, untagged_reads) refl

pub returns-clause-order : goal.returns-clause-order
returns-clause-order c = rw (received_reads, ended_reads, home_reads, untagged_reads) refl

pub returns-clause-ledger : goal.returns-clause-ledger
returns-clause-ledger c = rw (received_reads, ended_reads, home_reads, untagged_reads) refl

pub returns-clause-in_doubt : goal.returns-clause-in_doubt
returns-clause-in_doubt c = rw (received_reads, ended_reads, home_reads, untagged_reads) (λ clear. absurd (cc (clear.0)))

pub returns-clause-before : goal.returns-clause-before
returns-clause-before c = rw (received_reads, ended_reads, home_reads, untagged_reads) (refl, (λ e f. refl), (refl, (λ e f. refl), tt))

pub returns-clause-in_turn : goal.returns-clause-in_turn
returns-clause-in_turn c = rw untagged_reads refl
