use Rattle.program_flow.proofs.WholeRoots.{root-near}
use Rattle.program_flow.proofs.value_examples.roots_are_near.Goals as goal

pub returns : goal.returns
returns c = root-near
