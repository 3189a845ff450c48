use Rattle.witness_laws.proofs.client.Aheading.{reported_before, claimed_before}
use Rattle.witness_laws.proofs.client_laws.what_the_client_counts_was_reported_before.Goals as goal

pub returns : goal.returns
returns c = record { exactly = reported_before; claims = claimed_before }
