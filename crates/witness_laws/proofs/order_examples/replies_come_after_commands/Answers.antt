use Rattle.witness_laws.proofs.Names.{refl}
use Rattle.witness_laws.proofs.orders.Readings.{received_reads, ended_reads, home_reads}
use Rattle.witness_laws.proofs.order_examples.replies_come_after_commands.Goals as goal

pub returns-clause-stray : goal.returns-clause-stray
returns-clause-stray c = rw (received_reads, ended_reads, home_reads) (λ e. refl, (λ e. refl, (λ e. refl, tt)))

pub returns-clause-early : goal.returns-clause-early
returns-clause-early c = rw (received_reads, ended_reads, home_reads) (λ causal. absurd (cc (causal.0 refl)))

pub returns-clause-early_told : goal.returns-clause-early_told
returns-clause-early_told c = rw (received_reads, ended_reads, home_reads) refl

pub returns-clause-early_ledger : goal.returns-clause-early_ledger
returns-clause-early_ledger c = rw (received_reads, ended_reads, home_reads) refl
