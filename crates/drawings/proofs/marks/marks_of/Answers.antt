use Rattle.drawings.proofs.Items.{no_items}
use Rattle.drawings.proofs.Marked.{marked_all}
use Rattle.drawings.proofs.marks.marks_of.Goals as goal

pub returns : goal.returns
returns c = marked_all c.args.program.now.features c.args.features.now _ _
    (rw (no_items c.loop-wanted.wanted.now c.in_default.len_below) at c.loop-wanted.invariant.marked)
