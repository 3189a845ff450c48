use Rattle.std.proofs.Common.{[], sym, ◌∙◌}
use Rattle.witness.proofs.OrderLemmas.{on_start, on_next, stays_at, ends_whole, same_line}
use Rattle.witness.proofs.orders.advance.Goals as goal

pub loop-at-init : goal.loop-at-init
loop-at-init c = on_start c.args.lines.now c.args.place.bytes c.args.place.at c.args.place.left c.args.count c.requires.at.on

pub returns-then-left-line-clause-at : goal.returns-then-left-line-clause-at
returns-then-left-line-clause-at c = stays_at c.args.lines.now _ c.loop-at.at c.loop-at.left c.as_slice-line.result.now
    c.loop-at.invariant c.loop-at-test.true
    (same_line c.args.lines.now c.loop-at.at [] c.index-lines-at.result c.loop-at-test.true ∙ sym c.index-lines-at.is ∙ sym c.as_slice-line.ensures.bytes)
    c.if-left-line.true

pub loop-at-preserved : goal.loop-at-preserved
loop-at-preserved c = on_next c.args.lines.now _ c.loop-at.at c.loop-at.left c.as_slice-line.result.now
    c.loop-at.invariant c.loop-at-test.true
    (same_line c.args.lines.now c.loop-at.at [] c.index-lines-at.result c.loop-at-test.true ∙ sym c.index-lines-at.is ∙ sym c.as_slice-line.ensures.bytes)
    c.if-left-line.false

pub returns-clause-at : goal.returns-clause-at
returns-clause-at c = ends_whole c.args.lines.now _ c.loop-at.at c.loop-at.left c.loop-at.invariant c.loop-at-test.false
