use Rattle.program_lowering.proofs.LawLemmas.{programs_read_back}
use Rattle.program_lowering.proofs.laws.flat_programs_read_back.Goals as goal

pub returns : goal.returns
returns c = programs_read_back
