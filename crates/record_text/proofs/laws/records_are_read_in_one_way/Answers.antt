use Rattle.record_text.proofs.RecordOnes.{one_record, not_unbegun, not_damaged, unbegun_not_damaged}
use Rattle.record_text.proofs.laws.records_are_read_in_one_way.Goals as goal

pub returns-clause-one : goal.returns-clause-one
returns-clause-one c = one_record

pub returns-clause-begun : goal.returns-clause-begun
returns-clause-begun c = not_unbegun

pub returns-clause-whole : goal.returns-clause-whole
returns-clause-whole c = not_damaged

pub returns-clause-torn : goal.returns-clause-torn
returns-clause-torn c = unbegun_not_damaged
