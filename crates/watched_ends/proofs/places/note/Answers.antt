use Rattle.std.proofs.Common.{sym, ◌∙◌}
use Rattle.watched_ends.proofs.PlaceLemmas.{noted}
use Rattle.watched_ends.proofs.places.note.Goals as goal

pub returns-then-foreign_event-clause-noted : goal.returns-then-foreign_event-clause-noted
returns-then-foreign_event-clause-noted c = λ up there last.
    noted up c.args.at c.args.places.now.items c.put.new.table.items c.args.line.now c.in-Some.tag c.in-Some.command
    (sym c.in_ok-tag.ensures ∙ c.in-Some.is) c.in_ok-put.ensures there last

pub returns-clause-noted : goal.returns-clause-noted
returns-clause-noted c = λ up there last.
    noted up c.args.at c.args.places.now.items c.put.new.table.items c.args.line.now c.in-Some.tag c.in-Some.command
    (sym c.in_ok-tag.ensures ∙ c.in-Some.is) c.in_ok-put.ensures there last
