use Rattle.witness_laws.proofs.orders.Claimed.{ordered_claim, any_claim, all_claim}
use Rattle.witness_laws.proofs.orders.More.{first_reported}
use Rattle.witness_laws.proofs.order_laws.recordings_claim_no_more.Goals as goal

pub returns : goal.returns
returns c = record { ordered = ordered_claim; any = any_claim; all = all_claim; first = first_reported }
