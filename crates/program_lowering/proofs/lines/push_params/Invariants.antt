use Rattle.program_lowering.proofs.Names.{◌++◌, ◌≡◌, drop, marked}
use Rattle.program_lowering.proofs.lines.push_params.Given as goal

abbrev pub invariant-loop-param : goal.invariant-loop-param
invariant-loop-param l = l.out.items ++ marked l.mark (drop l.param-index l.params) ≡ l.fn.out.items ++ marked l.first_mark l.params
