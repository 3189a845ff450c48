-- What a plan asks of the rack, the volume and the machine.
use Rattle.std.proofs.Common.{refl}
use Rattle.std.proofs.lemmas.Bool.{false≢true}
use Rattle.protocol_model.proofs.plain.premise_rows.Goals as goal

pub returns-clause-reached : goal.returns-clause-reached
returns-clause-reached c = (tt, (tt, (tt, (tt, (tt, (tt, (refl, (refl, (refl, (tt, (tt, (refl, (tt, tt)))))))))))))

pub returns-clause-no_such_tool : goal.returns-clause-no_such_tool
returns-clause-no_such_tool c = λ h. false≢true h.0

pub returns-clause-out_of_reach : goal.returns-clause-out_of_reach
returns-clause-out_of_reach c = λ h. false≢true h.0

pub returns-clause-obeyed : goal.returns-clause-obeyed
returns-clause-obeyed c = (tt, (tt, (tt, (refl, (tt, (tt, (refl, (refl, (refl, (tt, (tt, (refl, (tt, tt)))))))))))))

pub returns-clause-missed : goal.returns-clause-missed
returns-clause-missed c = λ h. h.1.1.0

pub returns-clause-others_missed : goal.returns-clause-others_missed
returns-clause-others_missed c = (refl, (refl, (refl, tt)))

pub returns-clause-not_touched : goal.returns-clause-not_touched
returns-clause-not_touched c = λ h. h.0

pub returns-clause-touched_outside : goal.returns-clause-touched_outside
returns-clause-touched_outside c = λ h. false≢true h.0

pub returns-clause-not_moved : goal.returns-clause-not_moved
returns-clause-not_moved c = λ h. cc
