use Rattle.program_lowering.proofs.LawLemmas.{sources_keep}
use Rattle.program_lowering.proofs.laws.flat_sources_keep_their_meaning.Goals as goal

pub returns : goal.returns
returns c = sources_keep
