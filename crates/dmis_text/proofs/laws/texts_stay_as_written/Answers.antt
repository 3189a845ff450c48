use Rattle.dmis_text.proofs.ElementLaws.{folded_at, length-folded, trimmed_is}
use Rattle.dmis_text.proofs.laws.texts_stay_as_written.Goals as goal

pub returns-clause-folded : goal.returns-clause-folded
returns-clause-folded c = folded_at

pub returns-clause-length : goal.returns-clause-length
returns-clause-length c = length-folded

pub returns-clause-trimmed : goal.returns-clause-trimmed
returns-clause-trimmed c = trimmed_is
