use Rattle.std.proofs.Common.{ap, refl}
use Rattle.effects.specs.declared.vocabulary.Answer.{Answer}
use Rattle.effects.specs.Effects.{the_reply}
use Rattle.services.specs.Relays.{event_of, must_fail}
use Rattle.services.specs.declared.relay_stages.RelayStage.TheVariants as stage
use Rattle.services.proofs.Relayed.{told_steps}
use Rattle.services.proofs.relaying.RelaySession.told.Goals as goal

pub returns-in-Done : goal.returns-in-Done
returns-in-Done c = (
  told_steps _ _ _ _ c.self.view_is c.requires
      (ap (λ (a : Answer). event_of stage.Telling (the_reply a)) c.in-Done.is)
      (ap (λ (a : Answer). must_fail stage.Telling (the_reply a)) c.in-Done.is) c.clear_due.ensures refl refl refl refl refl,
  tt,
)
