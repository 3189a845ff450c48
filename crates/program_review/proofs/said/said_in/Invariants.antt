use Rattle.std.proofs.Common.{◌++◌, ◌≡◌, drop}
use Rattle.program_review.proofs.said.said_in.Given as goal

-- those so far and those that are left are all
abbrev pub invariant-loop-statement : goal.invariant-loop-statement
invariant-loop-statement l = l.all.items ++ drop l.statement-index l.statements ≡ l.statements
