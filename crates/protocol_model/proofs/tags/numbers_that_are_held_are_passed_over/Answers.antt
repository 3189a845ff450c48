use Rattle.protocol_model.proofs.table.NextNumber.{drawn_free, drawn_within, drawn_passed, drawn_up, drawn_again, drawn_spent}
use Rattle.protocol_model.proofs.tags.numbers_that_are_held_are_passed_over.Goals as goal

pub returns-clause-free : goal.returns-clause-free
returns-clause-free c = drawn_free

pub returns-clause-within : goal.returns-clause-within
returns-clause-within c = drawn_within

pub returns-clause-passed : goal.returns-clause-passed
returns-clause-passed c = drawn_passed

pub returns-clause-passed_up : goal.returns-clause-passed_up
returns-clause-passed_up c = drawn_up

pub returns-clause-passed_again : goal.returns-clause-passed_again
returns-clause-passed_again c = drawn_again

pub returns-clause-spent : goal.returns-clause-spent
returns-clause-spent c = drawn_spent
