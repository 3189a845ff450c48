use Rattle.program_review.proofs.PlanLineLemmas.{plan_lines}
use Rattle.program_review.proofs.laws.commands_have_the_lines_of_their_statements.Goals as goal

pub returns : goal.returns
returns c = plan_lines
