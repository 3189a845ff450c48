use Rattle.dmis_text.proofs.SplittingLaws.{cut_is, uncut_is, split_is, says_is}
use Rattle.dmis_text.proofs.laws.each_text_says_one_statement.Goals as goal

pub returns-clause-cut : goal.returns-clause-cut
returns-clause-cut c = cut_is

pub returns-clause-uncut : goal.returns-clause-uncut
returns-clause-uncut c = uncut_is

pub returns-clause-pieces : goal.returns-clause-pieces
returns-clause-pieces c = split_is

pub returns-clause-statement : goal.returns-clause-statement
returns-clause-statement c = says_is
