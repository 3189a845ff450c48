use Rattle.program_lowering.proofs.Names.{arith}
use Rattle.program_flow.specs.Variables.{entry_value}
use Rattle.program_lowering.proofs.ValuedLemmas.{rest_fails}
use Rattle.program_lowering.proofs.values.+push_params.Goals as goal

pub returns-in-Err : goal.returns-in-Err
returns-in-Err t c = (
  tt,
  λ apart. rest_fails (entry_value c.args.variables.now) c.args.params.now c.args.out.now.items c.push_param.new.out.items
      c.extend_from_slice.new.self.items c.first-item.result c.args.mark c.in_ok-plain.plain c.in-Err.fault (omega (arith, c.in-len1-up.len_at_least))
      c.first-item.is (rw c.deref.ensures at c.in_ok-plain.ensures.0) (c.in-Err.ensures.1 apart),
)
