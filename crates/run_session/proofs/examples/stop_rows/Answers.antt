use Rattle.run_session.proofs.Names.{ap, false, Found, Done, Stage, true}
use Rattle.run_session.proofs.Stops.{calm, with_memory}
use Rattle.run_session.specs.Records.{is_noting, is_stop}
use Rattle.run_session.proofs.examples.stop_rows.Goals as goal

pub returns-clause-since : goal.returns-clause-since
returns-clause-since c = calm

pub returns-clause-stop : goal.returns-clause-stop
returns-clause-stop c = λ s t at enough stops. let now = with_memory true s t Found (ap (λ (x : Stage). is_stop x Found) at) (ap is_noting at) enough stops in now.0

pub returns-clause-unstopped : goal.returns-clause-unstopped
returns-clause-unstopped c = λ s t at enough stops. let now = with_memory false s t Done (ap (λ (x : Stage). is_stop x Done) at) (ap is_noting at) enough stops in now.0
