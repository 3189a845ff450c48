use Rattle.program_lowering.proofs.FrameLemmas.{others_same, selects}
use Rattle.program_lowering.proofs.laws.frames_are_selected_by_name.Goals as goal

pub returns-clause-selects : goal.returns-clause-selects
returns-clause-selects c = selects

pub returns-clause-others : goal.returns-clause-others
returns-clause-others c = others_same
