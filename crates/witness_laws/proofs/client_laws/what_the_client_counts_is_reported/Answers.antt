use Rattle.witness_laws.proofs.client.Seeing.{told_is_counted, told_is_claimed, told_begins, told_begins_to_claim}
use Rattle.witness_laws.proofs.client_laws.what_the_client_counts_is_reported.Goals as goal

pub returns : goal.returns
returns c = record {
  told = told_is_counted;
  claims = told_is_claimed;
  begins = told_begins;
  begins_to_claim = told_begins_to_claim;
}
