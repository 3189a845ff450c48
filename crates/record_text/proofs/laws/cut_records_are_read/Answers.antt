use Rattle.record_text.proofs.CutTexts.{whole_read, cut_read}
use Rattle.record_text.proofs.laws.cut_records_are_read.Goals as goal

pub returns-clause-whole : goal.returns-clause-whole
returns-clause-whole c = whole_read

pub returns-clause-cut : goal.returns-clause-cut
returns-clause-cut c = cut_read
