use Rattle.witness_laws.proofs.Names.{refl}
use Rattle.witness_laws.proofs.orders.Readings.{received_reads, ended_reads, home_reads, home_2_reads, untagged_reads, ended_2_reads}
use Rattle.witness_laws.proofs.order_examples.commands_are_fresh.Goals as goal

pub returns-clause-fresh : goal.returns-clause-fresh
returns-clause-fresh c = rw (received_reads, home_2_reads, home_reads) ((refl, refl), tt)

pub returns-clause-in_use : goal.returns-clause-in_use
returns-clause-in_use c = rw (received_reads, home_reads) (λ are. absurd (cc (are.0.1)))

pub returns-clause-again : goal.returns-clause-again
returns-clause-again c = rw home_reads (λ are. absurd (cc (are.1.0.1)))

pub returns-clause-at_once : goal.returns-clause-at_once
returns-clause-at_once c = rw untagged_reads (λ are. are.0)

pub returns-clause-under : goal.returns-clause-under
returns-clause-under c = rw (ended_2_reads, ended_reads) refl

pub returns-clause-other : goal.returns-clause-other
returns-clause-other c = rw ended_2_reads refl
