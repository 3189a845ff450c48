use Rattle.std.proofs.Common.{refl}
use Rattle.dmis_program.specs.Keywords.{keyword_of}
use Rattle.dmis_program.specs.Sayings.{said_of, said_by}
use Rattle.program_review.proofs.laws.texts_hold_back_what_is_below.Goals as goal

pub returns-clause-texts : goal.returns-clause-texts
unfolding keyword_of said_of said_by
returns-clause-texts c = refl
