use Rattle.program_lowering.proofs.LabelLemmas.{one_name}
use Rattle.program_lowering.proofs.laws.one_name_is_one_feature.Goals as goal

pub returns : goal.returns
returns c = one_name
