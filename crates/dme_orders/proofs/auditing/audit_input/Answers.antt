use Rattle.std.proofs.Common.{rules, inr}
use Rattle.dme_orders.proofs.OrderLemmas.{blamed_as}
use Rattle.dme_orders.proofs.auditing.audit_input.Goals as goal

pub returns-in_err-program-clause-err : goal.returns-in_err-program-clause-err
returns-in_err-program-clause-err g c = blamed_as _ c.in_err-program.field-0.0 c.from_residual-in_err-program.result (search rules) (inr (
  c.in_ok-setup.setup,
  c.in_ok-setup.ensures.ok,
  inr (
    c.in_ok-features.features,
    c.in_ok-features.ensures.ok,
    inr (c.in_ok-ledger.ledger, c.in_ok-ledger.ensures.ok, search rules),
  ),
))
