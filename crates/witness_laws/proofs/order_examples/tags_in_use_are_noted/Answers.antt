use Rattle.witness_laws.proofs.Names.{Act, Did, false≢true, Machine, MovedSomewhere, refl}
use Rattle.witness_laws.specs.Claims.{moved}
use Rattle.witness_laws.specs.OrderExamples.{origin}
use Rattle.witness_laws.proofs.orders.Claiming.{named_stays}
use Rattle.witness_laws.proofs.orders.Readings.{received_reads, ended_reads, selected_reads, moves_reads}
use Rattle.witness_laws.proofs.order_examples.tags_in_use_are_noted.Goals as goal

pub returns-clause-causal : goal.returns-clause-causal
returns-clause-causal c = rw (received_reads, ended_reads, selected_reads, moves_reads)
    (λ e. absurd (cc), (λ e. absurd (cc), (λ e. refl, (λ e. refl, tt))))

pub returns-clause-order : goal.returns-clause-order
returns-clause-order c = rw (received_reads, ended_reads, selected_reads, moves_reads) refl

pub returns-clause-ledger : goal.returns-clause-ledger
returns-clause-ledger c = rw (received_reads, ended_reads, selected_reads, moves_reads) refl

pub returns-clause-more : goal.returns-clause-more
returns-clause-more c = λ p. absurd (false≢true (named_stays (Did (Act.Moved origin Machine)) (MovedSomewhere origin) p.0 refl))

pub returns-clause-less : goal.returns-clause-less
returns-clause-less c = (moved origin Machine, tt)
