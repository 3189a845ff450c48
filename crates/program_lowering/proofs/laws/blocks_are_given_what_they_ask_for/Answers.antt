use Rattle.program_lowering.proofs.EvenLemmas.{asked_back, asked_below, asked_count, no_waiting}
use Rattle.program_lowering.proofs.laws.blocks_are_given_what_they_ask_for.Goals as goal

pub returns-clause-count : goal.returns-clause-count
returns-clause-count c = asked_count

pub returns-clause-from_centre : goal.returns-clause-from_centre
returns-clause-from_centre c = asked_below

pub returns-clause-back : goal.returns-clause-back
returns-clause-back c = asked_back

pub returns-clause-others : goal.returns-clause-others
returns-clause-others c = no_waiting
