use Rattle.witness_laws.proofs.Names.{refl}
use Rattle.witness_laws.proofs.orders.Readings.{received_reads, refused_reads, ended_reads, home_reads, selected_reads}
use Rattle.witness_laws.proofs.order_examples.tags_are_used_again_after_an_error.Goals as goal

pub returns-clause-causal : goal.returns-clause-causal
returns-clause-causal c = rw (received_reads, refused_reads, ended_reads, home_reads, selected_reads)
    (λ e. absurd (cc), (λ e. absurd (cc), (λ e. absurd (cc), (λ e. refl, (λ e. refl, tt)))))

pub returns-clause-in_doubt : goal.returns-clause-in_doubt
returns-clause-in_doubt c = rw (received_reads, refused_reads, ended_reads, home_reads, selected_reads)
    (λ clear. absurd (cc (clear.2.2.1 refl refl)))

pub returns-clause-order : goal.returns-clause-order
returns-clause-order c = rw (received_reads, refused_reads, ended_reads, home_reads, selected_reads) refl

pub returns-clause-ledger : goal.returns-clause-ledger
returns-clause-ledger c = rw (received_reads, refused_reads, ended_reads, home_reads, selected_reads) refl

pub returns-clause-not_failed : goal.returns-clause-not_failed
returns-clause-not_failed c = rw (received_reads, ended_reads, home_reads, selected_reads)
    (refl, (λ e. absurd (cc)), (refl, (λ e f. absurd (cc)), (refl, (λ e. absurd (cc)), (refl, (λ e f. absurd (cc)), tt))))

pub returns-clause-errors : goal.returns-clause-errors
returns-clause-errors c = rw (ended_reads, refused_reads) refl

pub returns-clause-other : goal.returns-clause-other
returns-clause-other c = rw (ended_reads, received_reads) refl
