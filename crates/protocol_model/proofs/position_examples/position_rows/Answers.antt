use Rattle.std.proofs.Common.{refl}
use Rattle.protocol_model.proofs.ScriptTexts.{moved_between_text}
use Rattle.protocol_model.proofs.position_examples.position_rows.Goals as goal

pub returns-clause-text : goal.returns-clause-text
returns-clause-text c = moved_between_text

pub returns-clause-from_the_start : goal.returns-clause-from_the_start
returns-clause-from_the_start c = refl

pub returns-clause-behind_the_first : goal.returns-clause-behind_the_first
returns-clause-behind_the_first c = refl

pub returns-clause-behind_both : goal.returns-clause-behind_both
returns-clause-behind_both c = refl
