use Rattle.dme_tags.specs.Sorts.{numbered}
use Rattle.dme_tags.proofs.Numbers.{next_first}
use Rattle.dme_tags.proofs.drawing.next_number.Goals as goal

pub returns-in-Some-clause-next : goal.returns-in-Some-clause-next
returns-in-Some-clause-next c = next_first (numbered c.args.sort) c.args.commands.now c.args.drawn c.in-Some.number c.in-Some.ensures.free
