use Rattle.program_lowering.proofs.HeadLemmas.{are_comments}
use Rattle.program_lowering.proofs.laws.heads_are_comments.Goals as goal

pub returns : goal.returns
returns c = are_comments
