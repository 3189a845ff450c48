use Rattle.program_lowering.proofs.EvenLemmas.{with_touch}
use Rattle.program_lowering.proofs.laws.blocks_with_touches_stay.Goals as goal

pub returns : goal.returns
returns c = with_touch
