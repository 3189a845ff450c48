use Rattle.client_core.proofs.Runs.{program_stays, features_are_ours, counted_are_planned, told_is_unhomed, counted_on_the_last, counted_is_next}
use Rattle.client_core.proofs.laws.whatever_the_peer_sends.Goals as goal

pub returns-clause-program : goal.returns-clause-program
returns-clause-program c = program_stays

pub returns-clause-features : goal.returns-clause-features
returns-clause-features c = features_are_ours

pub returns-clause-counted : goal.returns-clause-counted
returns-clause-counted c = counted_are_planned

pub returns-clause-homed : goal.returns-clause-homed
returns-clause-homed c = told_is_unhomed

pub returns-clause-numbered : goal.returns-clause-numbered
returns-clause-numbered c = counted_on_the_last

pub returns-clause-next : goal.returns-clause-next
returns-clause-next c = counted_is_next
