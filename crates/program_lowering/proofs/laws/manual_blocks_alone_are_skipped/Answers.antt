use Rattle.program_lowering.proofs.LawLemmas.{others_stay, touches_skipped}
use Rattle.program_lowering.proofs.laws.manual_blocks_alone_are_skipped.Goals as goal

pub returns-clause-touches : goal.returns-clause-touches
returns-clause-touches c = touches_skipped

pub returns-clause-others : goal.returns-clause-others
returns-clause-others c = others_stay
