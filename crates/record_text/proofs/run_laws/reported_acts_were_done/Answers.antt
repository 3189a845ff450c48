use Rattle.record_text.proofs.Worlds.{told_is_done, run_calls}
use Rattle.record_text.proofs.run_laws.reported_acts_were_done.Goals as goal

pub returns-clause-done : goal.returns-clause-done
returns-clause-done c = told_is_done

pub returns-clause-calls : goal.returns-clause-calls
returns-clause-calls c world events = run_calls events world
