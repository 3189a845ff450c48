use Rattle.link_world.proofs.Names.{◌++◌, rows, rules}
use Rattle.link_world.proofs.Tracing.{rows_more, rows_end}
use Rattle.link_world.proofs.worlds.traces.push_rows.Goals as goal

pub loop-at-preserved : goal.loop-at-preserved
loop-at-preserved c = rows_more c.args.number c.in-Some.at c.args.mark.now c.loop-at.text.items c.push_row.new.text.items
    c.loop-at.rest.now c.split_at.result.0.now c.without_cr.result.now c.split_at-in-Some.result.1.now
    (c.args.text.now.items ++ rows c.args.number c.args.mark.now c.args.bytes.now) (search rules) (search rules) c.without_cr.ensures (search rules)
    c.in_ok-push_row.ensures c.loop-at.invariant

pub returns : goal.returns
returns c = rows_end c.push_row-2.result c.args.number c.args.mark.now c.loop-at.text.items c.push_row-2.new.text.items
    c.loop-at.rest.now c.without_cr-2.result.now
    (c.args.text.now.items ++ rows c.args.number c.args.mark.now c.args.bytes.now) (search rules) c.without_cr-2.ensures c.push_row-2.ensures c.loop-at.invariant
