use Rattle.dmis_text.proofs.ElementLaws.{open_is}
use Rattle.dmis_text.proofs.laws.open_texts_are_seen_in_the_statement.Goals as goal

pub returns : goal.returns
returns c = open_is
