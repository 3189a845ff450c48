use Rattle.tool_rack.proofs.LineLaws.{first_refused, not_refused}
use Rattle.tool_rack.proofs.laws.first_refused_line_decides.Goals as goal

pub returns-clause-refused : goal.returns-clause-refused
returns-clause-refused c = first_refused

pub returns-clause-accepted : goal.returns-clause-accepted
returns-clause-accepted c = not_refused
