use Rattle.contact_ledger.proofs.TextLines.{text_back, torn_back, header_back}
use Rattle.contact_ledger.proofs.laws.written_features_are_read_back.Goals as goal

pub returns-clause-whole : goal.returns-clause-whole
returns-clause-whole c = text_back

pub returns-clause-cut_header : goal.returns-clause-cut_header
returns-clause-cut_header c = header_back

pub returns-clause-cut_feature : goal.returns-clause-cut_feature
returns-clause-cut_feature c = torn_back
