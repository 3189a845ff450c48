use Rattle.run_opening.proofs.Begun.{run_begun}
use Rattle.run_opening.proofs.laws.ready_runs_begin.Goals as goal

pub returns : goal.returns
returns c = λ run s o bytes pair known named is session.
    run_begun run o.answered bytes s.core.client s.core.begun pair (known.0.begins.recorded named) is session
