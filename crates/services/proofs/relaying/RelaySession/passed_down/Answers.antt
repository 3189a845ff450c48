use Rattle.services.proofs.Relayed.{down_steps}
use Rattle.services.proofs.relaying.RelaySession.passed_down.Goals as goal

pub returns : goal.returns
returns c = down_steps _ _ _ c.args.count c.requires c.sent_down.ensures.same c.sent_down.ensures.sent c.after_down.ensures
