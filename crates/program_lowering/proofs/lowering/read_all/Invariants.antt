use Rattle.program_lowering.proofs.Names.{◌++◌, ◌≡◌, length, map}
use Rattle.program_lowering.specs.Prompts.{answered}
use Rattle.program_lowering.proofs.lowering.read_all.Given as goal

abbrev pub invariant-loop-statement : goal.invariant-loop-statement
invariant-loop-statement l = (l.all.items ++ map (answered l.answers) l.statements.left ≡ map (answered l.answers) l.fn.statements.left) × (l.statements.fault ≡ l.fn.statements.fault)
    × (l.statements.lines ≡ l.fn.statements.lines)

abbrev pub decreases-loop-statement : goal.decreases-loop-statement
decreases-loop-statement l = length l.statements.left
