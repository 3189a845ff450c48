use Rattle.std.proofs.Common.{rules}
use Rattle.dme_orders.proofs.TextReads.{read_as}
use Rattle.dme_orders.proofs.lowering.read_flat.Goals as goal

pub returns-in-Ok-clause-ok : goal.returns-in-Ok-clause-ok
returns-in-Ok-clause-ok g c = read_as _ c.in_ok-text.text.items _ (search rules) c.in_ok-text.ensures.ok
