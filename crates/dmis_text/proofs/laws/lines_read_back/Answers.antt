use Rattle.dmis_text.proofs.LineLaws.{lines_written, lines_written_with_return, lines_joined}
use Rattle.dmis_text.proofs.laws.lines_read_back.Goals as goal

pub returns-clause-feeds : goal.returns-clause-feeds
returns-clause-feeds c = lines_written

pub returns-clause-returns_and_feeds : goal.returns-clause-returns_and_feeds
returns-clause-returns_and_feeds c = lines_written_with_return

pub returns-clause-joined : goal.returns-clause-joined
returns-clause-joined c = lines_joined
