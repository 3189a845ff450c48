use Rattle.run_session.proofs.Names.{refl}
use Rattle.std.specs.Fmt.{digits}
use Rattle.run_session.proofs.ErrorRows.{one_heard, recorded, shown, unended, unshown}
use Rattle.run_session.proofs.examples.error_rows.Goals as goal

pub returns-clause-heard : goal.returns-clause-heard
returns-clause-heard c = one_heard

pub returns-clause-shown : goal.returns-clause-shown
returns-clause-shown c = shown

pub returns-clause-unshown : goal.returns-clause-unshown
returns-clause-unshown c = unshown

pub returns-clause-unended : goal.returns-clause-unended
returns-clause-unended c = unended

pub returns-clause-recorded : goal.returns-clause-recorded
returns-clause-recorded c = recorded

pub returns-clause-touched : goal.returns-clause-touched
unfolding digits
returns-clause-touched c = λ t. refl

pub returns-clause-first : goal.returns-clause-first
unfolding digits
returns-clause-first c = λ t. refl

pub returns-clause-moved : goal.returns-clause-moved
unfolding digits
returns-clause-moved c = λ t. refl

pub returns-clause-beyond : goal.returns-clause-beyond
returns-clause-beyond c = λ t. refl

pub returns-clause-unlined : goal.returns-clause-unlined
returns-clause-unlined c = refl

pub returns-clause-unasked : goal.returns-clause-unasked
returns-clause-unasked c = refl

pub returns-clause-kept : goal.returns-clause-kept
returns-clause-kept c = refl

pub returns-clause-event : goal.returns-clause-event
returns-clause-event c = refl

pub returns-clause-written : goal.returns-clause-written
returns-clause-written c = refl
