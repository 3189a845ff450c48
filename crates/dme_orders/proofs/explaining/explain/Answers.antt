use Rattle.std.proofs.Common.{rules, refl}
use Rattle.dme_orders.proofs.OrderLemmas.{no_text}
use Rattle.dme_orders.proofs.explaining.explain.Goals as goal

pub returns-in_err-text : goal.returns-in_err-text
returns-in_err-text g c = no_text _ _ c.from_residual.result (search rules) refl
