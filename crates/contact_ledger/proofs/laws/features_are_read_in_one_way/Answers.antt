use Rattle.contact_ledger.proofs.FeatureReads.{one_features, never_both}
use Rattle.contact_ledger.proofs.laws.features_are_read_in_one_way.Goals as goal

pub returns-clause-one : goal.returns-clause-one
returns-clause-one c = one_features

pub returns-clause-never_both : goal.returns-clause-never_both
returns-clause-never_both c = never_both
