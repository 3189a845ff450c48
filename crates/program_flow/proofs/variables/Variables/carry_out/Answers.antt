use Rattle.program_flow.proofs.Carrying.{carry}
use Rattle.program_flow.proofs.variables.Variables.carry_out.Goals as goal

pub returns : goal.returns
returns c = λ above holds. carry _ above _ _ _ c.step.ensures holds
