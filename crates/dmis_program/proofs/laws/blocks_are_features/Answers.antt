use Rattle.dmis_program.proofs.BlockLemmas.{block_is_feature}
use Rattle.dmis_program.proofs.laws.blocks_are_features.Goals as goal

pub returns : goal.returns
returns c = block_is_feature
