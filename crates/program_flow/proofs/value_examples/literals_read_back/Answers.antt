use Rattle.program_flow.proofs.Literals.{literal-back}
use Rattle.program_flow.proofs.value_examples.literals_read_back.Goals as goal

pub returns : goal.returns
returns c text = literal-back text
