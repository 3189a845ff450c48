use Rattle.run_session.proofs.Names.{ap, Bytes, false, Stage}
use Rattle.run_session.proofs.Stops.{all_noted, with_memory}
use Rattle.run_session.specs.Records.{is_noting, is_stop}
use Rattle.run_session.proofs.examples.note_rows.Goals as goal

pub returns-clause-noted : goal.returns-clause-noted
returns-clause-noted c = λ s t time at enough stops. all_noted s t (Bytes time) at enough stops

pub returns-clause-stays : goal.returns-clause-stays
returns-clause-stays c = λ s t reply at enough stops. with_memory false s t reply (ap (λ (x : Stage). is_stop x reply) at) (ap is_noting at) enough stops
