use Rattle.witness_laws.proofs.client.Visiting.{held_are_true, held_are_true_so}
use Rattle.witness_laws.proofs.client_laws.held_features_are_true_of_what_was_reported.Goals as goal

pub returns : goal.returns
returns c = record { with = held_are_true; any = held_are_true_so }
