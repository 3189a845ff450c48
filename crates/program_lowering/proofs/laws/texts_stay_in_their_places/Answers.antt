use Rattle.program_lowering.proofs.LawLemmas.{texts_stay}
use Rattle.program_lowering.proofs.laws.texts_stay_in_their_places.Goals as goal

pub returns : goal.returns
returns c = texts_stay
