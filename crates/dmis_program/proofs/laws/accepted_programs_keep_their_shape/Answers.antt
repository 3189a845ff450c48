use Rattle.dmis_program.proofs.ShapeLemmas.{program_shape, program_stored}
use Rattle.dmis_program.proofs.laws.accepted_programs_keep_their_shape.Goals as goal

pub returns-clause-program : goal.returns-clause-program
returns-clause-program c = program_shape

pub returns-clause-stored : goal.returns-clause-stored
returns-clause-stored c = program_stored
