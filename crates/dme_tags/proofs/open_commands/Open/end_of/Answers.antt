use Rattle.std.proofs.Common.{refl}
use Rattle.dme_tags.proofs.Ends.{ending_standard, ending_event}
use Rattle.dme_tags.proofs.open_commands.Open.end_of.Goals as goal

pub returns-in-Std-clause-ending : goal.returns-in-Std-clause-ending
returns-in-Std-clause-ending c = ending_standard c.in-Std.is c.self.view_is refl c.end_of.ensures.ok
    c.end_of.ensures.refused

pub returns-in-Event-clause-ending : goal.returns-in-Event-clause-ending
returns-in-Event-clause-ending c = ending_event c.in-Event.is c.self.view_is refl
    c.end_of-in-Event.ensures.ok c.end_of-in-Event.ensures.refused
