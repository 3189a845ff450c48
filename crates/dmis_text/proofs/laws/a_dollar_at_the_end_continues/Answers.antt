use Rattle.dmis_text.proofs.Blanks.{role_continued, role_last}
use Rattle.dmis_text.proofs.laws.a_dollar_at_the_end_continues.Goals as goal

pub returns-clause-continued : goal.returns-clause-continued
returns-clause-continued c = role_continued

pub returns-clause-last : goal.returns-clause-last
returns-clause-last c = role_last
