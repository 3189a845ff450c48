use Rattle.client_core.proofs.Names.{IsFeedRefused, rules, subst}
use Rattle.client_core.proofs.Reached.{never_met}
use Rattle.client_core.proofs.client.Client.feed.Goals as goal

pub unreachable-requires : goal.unreachable-requires
unreachable-requires c =
    never_met c.self.inside.executor c.self.inside.input c.self.inside.out.waiting c.in-Err-Framing.field-0-0 c.self.invariant
    (search rules) (subst (IsFeedRefused c.self.inside.input) c.in-Err-Framing.field-0-is c.in-Err-Framing.ensures.cause)
