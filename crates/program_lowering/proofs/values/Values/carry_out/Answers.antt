use Rattle.program_lowering.proofs.Names.{ap, is_none, sym}
use Rattle.program_lowering.proofs.ValuedLemmas.{carried_on}
use Rattle.program_lowering.proofs.values.Values.carry_out.Goals as goal

pub returns-in-Ok-clause-done : goal.returns-in-Ok-clause-done
returns-in-Ok-clause-done c above k =
    let out = c.carry_out.ensures above k.holds in
    let ok = rw c.in-Ok.is at out.0 in (
      rw c.is_declaration.ensures (carried_on above c.args.statement.now c.carry_out.new.self c.args.self.now.declared ok.0 ok.1 k.some),
      ap is_none (sym ok.1),
    )
