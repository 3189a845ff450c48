use Rattle.dme_tags.proofs.Places.{held_found}
use Rattle.dme_tags.proofs.marks.is_held.Goals as goal

pub returns-in-Ok : goal.returns-in-Ok
returns-in-Ok c = held_found c.args.tag c.args.commands.now _ c.in-Ok.ensures.found
