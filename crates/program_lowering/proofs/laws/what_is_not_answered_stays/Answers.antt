use Rattle.program_lowering.proofs.AnswerLemmas.{none_answered, unasked_stays}
use Rattle.program_lowering.proofs.laws.what_is_not_answered_stays.Goals as goal

pub returns-clause-others : goal.returns-clause-others
returns-clause-others c = unasked_stays

pub returns-clause-unanswered : goal.returns-clause-unanswered
returns-clause-unanswered c = none_answered
