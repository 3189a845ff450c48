use Rattle.std.proofs.Common.{sym}
use Rattle.dme_tags.proofs.Places.{kind_at, no_kind}
use Rattle.dme_tags.proofs.marks.kind_of.Goals as goal

pub returns-in-Ok : goal.returns-in-Ok
returns-in-Ok c = sym (kind_at c.args.tag c.args.commands.now _ _ (c.in-Ok.ensures.found.at c.at.result.now c.at.ensures))

pub returns-in-Err : goal.returns-in-Err
returns-in-Err c = sym (no_kind c.args.tag c.args.commands.now c.in-Err.ensures.none)
