use Rattle.std.proofs.Common.{refl, rules}
use Rattle.dme_tags.proofs.Fitting.{fit_sent}
use Rattle.dme_tags.proofs.open_commands.Open.draw.Goals as goal

pub invariant_of-self-in-Std : goal.invariant_of-self-in-Std
invariant_of-self-in-Std c = (
  search rules,
  search rules,
  rw c.in_ok-push-in-Std.ensures.ok (fit_sent _ _ refl c.self.invariant.2),
  c.self.invariant.3,
)

pub invariant_of-self-in-Event : goal.invariant_of-self-in-Event
invariant_of-self-in-Event c = (
  search rules,
  search rules,
  c.self.invariant.2,
  rw c.in_ok-push-in-Event.ensures.ok (fit_sent _ _ refl c.self.invariant.3),
)
