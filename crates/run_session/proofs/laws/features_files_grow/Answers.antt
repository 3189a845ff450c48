use Rattle.run_session.proofs.FeatureFiles.{grown, made, next, stays}
use Rattle.run_session.proofs.laws.features_files_grow.Goals as goal

pub returns-clause-next : goal.returns-clause-next
returns-clause-next c = next

pub returns-clause-made : goal.returns-clause-made
returns-clause-made c = made

pub returns-clause-grown : goal.returns-clause-grown
returns-clause-grown c = grown

pub returns-clause-stays : goal.returns-clause-stays
returns-clause-stays c = stays
