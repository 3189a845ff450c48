use Rattle.dme_tags.proofs.Names.{ap, effect_heard, IfOk-weaker, refl}
use Rattle.dme_tags.proofs.Ends.{ending_standard, ending_event}
use Rattle.dme_tags.proofs.open_commands.Open.complete.Goals as goal

pub returns-in-Std-clause-ending : goal.returns-in-Std-clause-ending
returns-in-Std-clause-ending c = ending_standard c.in-Std.is c.self.view_is refl
    (IfOk-weaker c.end.result _ _ (λ _ h. ap effect_heard h) c.end.ensures.ok) c.end.ensures.refused

pub returns-in-Event-clause-ending : goal.returns-in-Event-clause-ending
returns-in-Event-clause-ending c = ending_event c.in-Event.is c.self.view_is refl
    (IfOk-weaker c.end-in-Event.result _ _ (λ _ h. ap effect_heard h) c.end-in-Event.ensures.ok) c.end-in-Event.ensures.refused
