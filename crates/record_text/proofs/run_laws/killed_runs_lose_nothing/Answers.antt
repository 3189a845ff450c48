use Rattle.record_text.proofs.Killed.{kept_by_all, begun_by_all}
use Rattle.record_text.proofs.run_laws.killed_runs_lose_nothing.Goals as goal

pub returns-clause-kept : goal.returns-clause-kept
returns-clause-kept c = kept_by_all

pub returns-clause-begun : goal.returns-clause-begun
returns-clause-begun c = begun_by_all
