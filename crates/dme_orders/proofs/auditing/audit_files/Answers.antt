use Rattle.std.proofs.Common.{rules, refl}
use Rattle.dme_orders.proofs.OrderLemmas.{no_room}
use Rattle.dme_orders.proofs.auditing.audit_files.Goals as goal

pub returns-in_err-status : goal.returns-in_err-status
returns-in_err-status g c = no_room _ _ _ _ c.from_residual-in_err-status.result (search rules) (record {
  setup = c.in_ok-features.ensures.ok.0;
  features = c.in_ok-features.features;
  ledger = c.in_ok-features.ledger;
  program = c.in_ok-features.program;
}) c.in_ok-features.ensures.ok.1 refl
