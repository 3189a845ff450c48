use Rattle.dmis_text.proofs.CommentLaws.{content_is, clean_is}
use Rattle.dmis_text.proofs.laws.lines_are_content_and_comment.Goals as goal

pub returns-clause-content : goal.returns-clause-content
returns-clause-content c = content_is

pub returns-clause-clean : goal.returns-clause-clean
returns-clause-clean c = clean_is
