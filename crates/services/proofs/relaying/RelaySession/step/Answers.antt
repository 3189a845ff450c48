use Rattle.effects.specs.Effects.{the_reply}
use Rattle.services.proofs.relaying.RelaySession.step.Goals as goal

pub returns-in_default-clause-takes : goal.returns-in_default-clause-takes
returns-in_default-clause-takes c = (c.close_on.ensures.steps (the_reply c.args.answer), tt)
