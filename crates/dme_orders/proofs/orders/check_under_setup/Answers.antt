use Rattle.dme_orders.proofs.CheckLemmas.{checked}
use Rattle.dme_orders.proofs.orders.check_under_setup.Goals as goal

pub returns : goal.returns
returns g c = checked _ _ _ c.in_ok-setup.setup _ c.in_ok-setup.ensures.ok c.check_under.ensures
