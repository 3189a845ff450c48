use Rattle.witness.proofs.ToldLaws.{one_text, never_both}
use Rattle.witness.proofs.told_laws.texts_are_read_in_one_way.Goals as goal

pub returns-clause-one : goal.returns-clause-one
returns-clause-one c = one_text

pub returns-clause-whole : goal.returns-clause-whole
returns-clause-whole c = never_both
